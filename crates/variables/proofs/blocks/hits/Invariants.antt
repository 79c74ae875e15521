-- `hits` meets its contract. The loop's invariant: while what is joined is 0, the lines passed do not have the key.
use mathlib.Core.Path.{◌≡◌}
use Prim.Native.Nat.{ℕ, ◌%◌, ◌<◌}
use lib.ListN.{get_or}
use Rattle.variables.proofs.blocks.hits.Given as goal

abbrev pub invariant-loop-line : goal.invariant-loop-line
invariant-loop-line l = l.any ≡ 0 → (k : ℕ) → k < l.line-index → get_or l.block k 0 % 32768 ≡ l.key → ⊥
