-- `build_index` meets its contract: the table's check decides, then the room; only then is anything laid.
use mathlib.Core.List.{List, [], ◌++◌}
use mathlib.Core.Path.{◌≡◌, refl, ap, ◌∙◌}
use Prim.Native.Nat.{ℕ, ◌*◌, ◌-◌, ◌<◌, ◌≤◌}
use native.Mathlib.Omega.{arith}
use borrow.Author.Tests.{lt-ltb, le-ltb}
use lib.ListN.{length, drop}
use Rattle.variables.specs.Tables.{checked, records_of}
use Rattle.std.specs.Prelude.{Result, Ok, Err}
use Rattle.std.specs.Result.{result_map_both}
use Rattle.std.proofs.lemmas.Result.{err_from_is_err_and}
use Rattle.paper.proofs.Choice.{clash}
use Rattle.paper.specs.declared.refusals.BadTable as Tables
use Rattle.variables.proofs.Good.{laid}
use Rattle.indexes.specs.Indexes.{index_of, inserted_all}
use Rattle.indexes.specs.Buildings.{built_over, built, laid_by, index_after}
use Rattle.indexes.specs.declared.building.Built.{Built}
use Rattle.indexes.specs.declared.building.NotBuilt.{NotBuilt}
use Rattle.indexes.specs.declared.building.NotBuilt.TheVariants.{NoRoom, BadTable}
use Rattle.indexes.proofs.Searching.{bytes_long}
use Rattle.indexes.proofs.Sorting.{all_long}
use Rattle.indexes.proofs.building.build_index.Goals as goal

-- the buffer that goes with an answer
settled :
    (table out after : List ℕ) {b : Result Built NotBuilt} → b ≡ built table (length out) → after ≡ laid_by b (index_of table) out →
    after ≡ index_after table out
unfolding index_after
settled table out after e q = q ∙ ap (λ b. laid_by b (index_of table) out) e

-- what the count of the records told
counted : (table : List ℕ) (room : ℕ) {n : ℕ} → Ok n ≡ result_map_both (λ count. count) (λ bad. BadTable bad room) (checked table) → checked table ≡ Ok n
counted table room = go (checked table)
  where
    go : (r : Result ℕ Tables.BadTable) {n : ℕ} → Ok n ≡ result_map_both (λ count. count) (λ bad. BadTable bad room) r → r ≡ Ok n
    go (Ok count) {n} e =
        let same : count ≡ n = cc in
        ap Ok same
    go (Err bad) e = clash (cc)

refused : (table : List ℕ) (room : ℕ) {why : NotBuilt} → Err why ≡ result_map_both (λ count. count) (λ bad. BadTable bad room) (checked table) → Err why ≡ built table room
unfolding built
refused table room = go (checked table)
  where
    go : (r : Result ℕ Tables.BadTable) {why : NotBuilt} → Err why ≡ result_map_both (λ count. count) (λ bad. BadTable bad room) r → Err why ≡ built_over r room
    go (Ok count) e = clash (cc)
    go (Err bad) {why} e =
        let same : why ≡ BadTable bad room = cc in
        ap Err same

module _ (table : List ℕ) {count : ℕ} (good : checked table ≡ Ok count) where
  no_room : (out : List ℕ) → length out < 2 * count → Err (NoRoom (2 * count) (length out)) ≡ built table (length out)
  unfolding built
  no_room out h = rw (good, lt-ltb (length out) (2 * count) h)

  written : (out : List ℕ) → 2 * count ≤ length out → Ok (record { need = 2 * count; free = length out - 2 * count }) ≡ built table (length out)
  unfolding built
  written out h = rw (good, le-ltb (length out) (2 * count) h)

  -- an index is as long as its need
  long : length (index_of table) ≡ 2 * count
  long = omega (arith, bytes_long (inserted_all (records_of table) []), all_long (records_of table) [], (laid table good).counted)

pub returns-in_err-count : goal.returns-in_err-count
returns-in_err-count c =
    let p = err_from_is_err_and c.from_residual.result c.from_residual.ensures.1 in
    let answer : c.from_residual.result ≡ built c.args.table.now (length c.args.out.now) = rw (p.1, p.2) (refused _ _ c.in_err-count.ensures) in
    record { answer = answer; buffer = settled c.args.table.now c.args.out.now _ answer (rw p.1 refl) }

pub overflow_mul-need : goal.overflow_mul-need
overflow_mul-need c = omega (arith, (laid _ (counted _ _ c.in_ok-count.ensures)).few)

pub returns-then-room-need : goal.returns-then-room-need
returns-then-room-need c =
    let answer = no_room _ (counted _ _ c.in_ok-count.ensures) c.args.out.now c.if-room-need.true in
    record { answer = answer; buffer = settled c.args.table.now c.args.out.now _ answer refl }

pub lay_records-requires : goal.lay_records-requires
lay_records-requires c = (_, counted _ _ c.in_ok-count.ensures, c.if-room-need.false)

pub returns : goal.returns
returns c =
    let good = counted _ _ c.in_ok-count.ensures in
    let answer = written _ good c.args.out.now c.if-room-need.false in
    let laid_so = c.lay_records.ensures ∙ ap (λ n. index_of c.args.table.now ++ drop n c.args.out.now) (long _ good) in
    record { answer = answer; buffer = settled c.args.table.now c.args.out.now _ answer laid_so }
