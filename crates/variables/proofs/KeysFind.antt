-- The keys of two good tables: as many lines as their records, and a look-up by them is one in the tables.
use mathlib.Core.List.{List, [], ◌++◌, append-nil}
use mathlib.Core.Path.{◌≡◌, ap, sym, ◌∙◌}
use Prim.Native.Nat.{ℕ, ◌+◌, ◌-◌, ◌≤◌}
use native.Mathlib.Omega.{arith}
use borrow.Author.Tests.{le-ltb}
use lib.ListN.{length, take, drop, length-map, length-append}
use Rattle.paper.specs.Refusals.{longest}
use Rattle.paper.specs.declared.Holder.{Holder}
use Rattle.paper.specs.declared.Holder.TheVariants.{Farm, House}
use Rattle.variables.specs.Judgements.{judged}
use Rattle.variables.specs.Tables.{most, records_of, scan, checked, sought_in}
use Rattle.variables.specs.Holdings.{sought_in_both, held_in, or_else}
use Rattle.variables.specs.inner.Keys.{line_of, lines_of, laid_over, keys_of, Keys, passed_lines, judged_lines, sought_by}
use Rattle.std.specs.Prelude.{Ok}
use Rattle.variables.proofs.Good.{laid}
use Rattle.variables.proofs.Judging.{checked_short, BothGood, both_are}
use Rattle.variables.proofs.Lines.{by_records, or_nowhere}
use Rattle.variables.proofs.Passed.{laid_part, judged_few, laid_long}

-- a good table's records have as many lines as there are
pub lines_long : (holder : Holder) (table : List ℕ) {n : ℕ} → checked table ≡ Ok n → length (lines_of holder (records_of table)) ≡ n
lines_long holder table good = length-map (records_of table) (line_of holder) ∙ (laid table good).counted

pub passed_long :
    (holder : Holder) (table : List ℕ) {n : ℕ} → length table ≤ longest → scan table ≡ Ok n → length (passed_lines holder table (scan table)) ≡ n
passed_long holder table short e =
    ap (λ r. length (passed_lines holder table r)) e ∙ lines_long holder table (checked_short table short ∙ e)

-- two good tables' lines are all passed
module _ (farm house : List ℕ) {count : ℕ} (g : BothGood farm house count) where
  all_passed : judged_lines farm house ≡ keys_of farm house
  all_passed =
      let f : scan farm ≡ Ok g.own = sym (checked_short farm g.farm_short) ∙ g.farm_good in
      let h : scan house ≡ Ok g.rest = sym (checked_short house g.house_short) ∙ g.house_good in
      rw (le-ltb longest (length farm) g.farm_short, le-ltb longest (length house) g.house_short, f, h)

  long : length (keys_of farm house) ≡ count
  long =
      length-append (lines_of Farm (records_of farm)) (lines_of House (records_of house))
      ∙ omega (arith, lines_long Farm farm g.farm_good, lines_long House house g.house_good, g.counted)

-- the array that a judgement lays its lines into keeps its length
pub keys_long : (farm house keys₀ keys : List ℕ) → keys ≡ laid_over (judged_lines farm house) keys₀ → length keys₀ ≡ most + most → most + most ≡ length keys
keys_long farm house keys₀ keys laid_so long =
    sym (ap length laid_so ∙ laid_long (judged_lines farm house) keys₀ (omega (arith, judged_few farm house)) ∙ long)

-- the lines that the judgement of good tables lays
module _ (farm house keys₀ : List ℕ) {keys : List ℕ} {count : ℕ}
    (laid_so : keys ≡ laid_over (judged_lines farm house) keys₀) (good : judged farm house ≡ Ok count) where
  both : BothGood farm house count
  both = both_are farm house good

  whole : keys ≡ laid_over (keys_of farm house) keys₀
  whole = laid_so ∙ ap (λ lines. laid_over lines keys₀) (all_passed farm house both)

  -- the part of them from their start up to the count
  pub lines_inside : count ≤ length keys
  lines_inside =
      let rest : List ℕ = drop (length (keys_of farm house)) keys₀ in
      omega (arith, long farm house both, ap length whole ∙ length-append (keys_of farm house) rest)

  pub all_lines : Keys farm house (take (count - 0) keys)
  all_lines =
      let n : count - 0 ≡ length (keys_of farm house) = omega (arith, long farm house both) in
      ap (take (count - 0)) whole ∙ ap (λ n. take n (laid_over (keys_of farm house) keys₀)) n ∙ laid_part (keys_of farm house) keys₀

-- a look-up by two tables' keys is one in the tables
pub sought_by_keys :
    (farm house name : List ℕ) {keys : List ℕ} → Keys farm house keys → sought_by farm house keys name ≡ sought_in_both farm house name
unfolding sought_by
sought_by_keys farm house name e =
    let lines = lines_of House (records_of house) in
    ap (λ ks. sought_by farm house ks name) (e ∙ ap (◌++◌ (lines_of Farm (records_of farm))) (sym (append-nil lines)))
    ∙ by_records farm house Farm name (lines ++ []) (length farm)
    ∙ ap (or_else (held_in Farm (sought_in farm name))) (by_records farm house House name [] (length house) ∙ or_nowhere (held_in House (sought_in house name)))
