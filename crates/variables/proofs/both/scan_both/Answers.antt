-- `scan_both` meets its contract: the house's lines go behind the farm's.
use mathlib.Core.List.{List, ◌++◌}
use mathlib.Core.Path.{◌≡◌, ap, sym, ◌∙◌}
use Prim.Native.Nat.{ℕ, ◌+◌, ◌-◌, ◌≤◌}
use native.Mathlib.Omega.{arith}
use borrow.Rule.Slice.PartMut.{put_mid}
use Rattle.paper.specs.Refusals.{longest}
use Rattle.paper.specs.declared.Holder.TheVariants.{Farm, House}
use Rattle.variables.specs.Tables.{most, scan}
use Rattle.variables.specs.inner.Keys.{laid_over, passed_lines, behind_farm, both_lines}
use Rattle.std.specs.Prelude.{Result, Ok}
use Rattle.paper.specs.declared.refusals.BadTable.{BadTable}
use lib.ListN.{length, take, drop, length-append, length-drop}
use lib.Seq.{length-take-le}
use Rattle.variables.proofs.Bounds.{count_bounded}
use Rattle.variables.proofs.Judging.{told_good}
use Rattle.variables.proofs.KeysFind.{passed_long}
use Rattle.variables.proofs.Passed.{laid_behind}
use Rattle.variables.proofs.both.scan_both.Goals as goal

-- where the farm's scan has ended, with what it told
module _ (farm house : List ℕ) {r : Result ℕ BadTable} (s : r ≡ scan farm) where
  module _ (keys : List ℕ) {keys₁ : List ℕ} (l : keys₁ ≡ laid_over (passed_lines Farm farm r) keys) where
    laid : keys₁ ≡ laid_over (passed_lines Farm farm (scan farm)) keys
    laid = l ∙ ap (λ r. laid_over (passed_lines Farm farm r) keys) s

    -- where it found so many records
    module _ (short : length farm ≤ longest) (room : length keys ≡ most + most) {own : ℕ} (e : r ≡ Ok own) where
      good : scan farm ≡ Ok own
      good = sym s ∙ e

      few : own ≤ most
      few = count_bounded farm short good

      long : length (passed_lines Farm farm (scan farm)) ≡ own
      long = passed_long Farm farm short good

      both : passed_lines Farm farm (scan farm) ++ passed_lines House house (scan house) ≡ both_lines farm house
      both = ap (λ r. passed_lines Farm farm (scan farm) ++ behind_farm r (passed_lines House house (scan house))) (sym good)

      size : length keys₁ ≡ most + most
      size =
          let lines = passed_lines Farm farm (scan farm) in
          omega (arith, ap length laid ∙ length-append lines (drop (length lines) keys), length-drop (length lines) keys, long, few, room)

      left : length (take (length keys₁ - own) (drop own keys₁)) ≡ length keys₁ - own
      left = length-take-le (length keys₁ - own) (drop own keys₁) (omega (arith, length-drop own keys₁))

      -- the house's lines behind the farm's
      put :
          {part : List ℕ} → part ≡ laid_over (passed_lines House house (scan house)) (take (length keys₁ - own) (drop own keys₁)) →
          put_mid own (length keys₁ - own) keys₁ part ≡ laid_over (both_lines farm house) keys
      put e =
          ap (put_mid own (length keys₁ - own) keys₁) e
          ∙ laid_behind (passed_lines Farm farm (scan farm)) (passed_lines House house (scan house)) keys keys₁ own long laid
          ∙ ap (λ ls. laid_over ls keys) both

pub offset_bounds-keys-own : goal.offset_bounds-keys-own
offset_bounds-keys-own c =
    let a = c.args in
    let ok = told_good Farm c.scan.result c.in_ok-own.ensures in
    omega (arith, few a.tables.now.farm.now a.tables.now.house.now c.scan.ensures.answer a.keys.now c.scan.ensures.keys c.requires.0 c.requires.2 ok)

pub slice_bounds-scan_house-count : goal.slice_bounds-scan_house-count
slice_bounds-scan_house-count c =
    let a = c.args in
    let ok = told_good Farm c.scan.result c.in_ok-own.ensures in
    omega (
      arith,
      few a.tables.now.farm.now a.tables.now.house.now c.scan.ensures.answer a.keys.now c.scan.ensures.keys c.requires.0 c.requires.2 ok,
      size a.tables.now.farm.now a.tables.now.house.now c.scan.ensures.answer a.keys.now c.scan.ensures.keys c.requires.0 c.requires.2 ok,
    )

pub slice_bounds-scan_house-start : goal.slice_bounds-scan_house-start
slice_bounds-scan_house-start c =
    let a = c.args in
    let ok = told_good Farm c.scan.result c.in_ok-own.ensures in
    omega (
      arith,
      few a.tables.now.farm.now a.tables.now.house.now c.scan.ensures.answer a.keys.now c.scan.ensures.keys c.requires.0 c.requires.2 ok,
      size a.tables.now.farm.now a.tables.now.house.now c.scan.ensures.answer a.keys.now c.scan.ensures.keys c.requires.0 c.requires.2 ok,
    )

pub scan_house-requires : goal.scan_house-requires
scan_house-requires c =
    let a = c.args in
    let ok = told_good Farm c.scan.result c.in_ok-own.ensures in
    let f = few a.tables.now.farm.now a.tables.now.house.now c.scan.ensures.answer a.keys.now c.scan.ensures.keys c.requires.0 c.requires.2 ok in
    let z = size a.tables.now.farm.now a.tables.now.house.now c.scan.ensures.answer a.keys.now c.scan.ensures.keys c.requires.0 c.requires.2 ok in
    let l = left a.tables.now.farm.now a.tables.now.house.now c.scan.ensures.answer a.keys.now c.scan.ensures.keys c.requires.0 c.requires.2 ok in
    (f, c.requires.1, omega (arith, f, z, l))

pub returns-clause-keys : goal.returns-clause-keys
returns-clause-keys c =
    let a = c.args in
    let ok = told_good Farm c.scan.result c.in_ok-own.ensures in
    put a.tables.now.farm.now a.tables.now.house.now c.scan.ensures.answer a.keys.now c.scan.ensures.keys c.requires.0 c.requires.2 ok c.scan_house.ensures.keys
