-- A macro that is named in a text of some depth: its value is read one deeper, and at the deepest none is named.
use mathlib.Core.List.{List}
use mathlib.Core.Path.{◌≡◌, ap}
use Prim.Native.Nat.{ℕ, suc, ◌-◌, ◌≤◌, ◌<◌}
use native.Mathlib.Omega.{arith}
use Rattle.paper.specs.Traces.{Trace, faults, spends, enters}
use Rattle.paper.specs.declared.faults.Fault.TheVariants.{TooDeep}
use Rattle.variables.specs.Names.{Meaning}
use Rattle.gs.specs.Readings.{deepest, expands, read_at}

module _ (names : List ℕ → Meaning) (depth : ℕ) (name : List ℕ) (place : ℕ) (value : List ℕ) (rest : Trace) where
  pub one_deeper : depth < deepest
      → expands names (deepest - depth) name place value rest
      ≡ spends place (enters (record { name = name; place = place }) (read_at names (suc depth) value 0) rest)
  unfolding expands
  one_deeper h =
      let left : deepest - depth ≡ suc (deepest - suc depth) = omega arith in
      ap (λ levels. expands names levels name place value rest) left

  pub none_deeper : deepest ≤ depth → expands names (deepest - depth) name place value rest ≡ faults TooDeep place
  unfolding expands
  none_deeper h =
      let left : deepest - depth ≡ 0 = omega arith in
      ap (λ levels. expands names levels name place value rest) left
