-- `blocks_without` meets its contract. The loop's invariant: no line up to the next block has the key.
use Prim.Native.Nat.{◌*◌}
use Rattle.variables.specs.inner.Keys.{Without}
use Rattle.variables.proofs.blocks.blocks_without.Given as goal

abbrev pub invariant-loop-number : goal.invariant-loop-number
invariant-loop-number l = Without l.key l.keys (16 * l.number)
