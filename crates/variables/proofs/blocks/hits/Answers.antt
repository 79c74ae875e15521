-- `hits` meets its contract: of two numbers that are joined to 0 both are 0.
use mathlib.Core.Path.{◌≡◌}
use Prim.Native.Nat.{ℕ, ◌%◌}
use native.Mathlib.Omega.{arith}
use borrow.Author.Count.{below_more}
use lib.Bits.{bit_or, or_add_and, and_le_l, and_le_r}
use lib.ListN.{get_or}
use Rattle.variables.proofs.blocks.hits.Goals as goal

both_none : (a b : ℕ) → bit_or a b ≡ 0 → (a ≡ 0) × (b ≡ 0)
both_none a b e =
    let sum = or_add_and a b in
    (omega (arith, sum, and_le_r a b), omega (arith, sum, and_le_l a b))

pub loop-line-preserved : goal.loop-line-preserved
loop-line-preserved c none =
    let n = both_none c.loop-line.any c.hit-any.result none in
    below_more (λ k. get_or c.args.block.now k 0 % 32768 ≡ c.args.key → ⊥) c.loop-line.line-index (c.loop-line.invariant n.0) (c.hit-any.ensures n.1)
