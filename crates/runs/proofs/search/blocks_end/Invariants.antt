-- `blocks_end` meets its contract. The loop's invariant: no byte from the start up to here ends a run. The measure is what is left of
-- the text.
use Prim.Native.Nat.{◌-◌}
use lib.ListN.{length}
use Rattle.runs.specs.inner.Stretches.{Stretch}
use Rattle.runs.proofs.search.blocks_end.Given as goal

abbrev pub invariant-loop-at : goal.invariant-loop-at
invariant-loop-at g l = Stretch (g.E.Ends.plain_byte l.ends) l.text l.start l.at

abbrev pub decreases-loop-at : goal.decreases-loop-at
decreases-loop-at g l = length l.text - l.at
