-- `render` meets its contract. The loop's invariant: what is still to come from the two places on makes the answer and the buffer whole. The
-- measure is what is left of the format.
use Prim.Native.Nat.{◌-◌}
use lib.ListN.{length}
use Rattle.dates.proofs.Rendering.{Rendering}
use Rattle.dates.proofs.render.FormattedMoment.render.Given as goal

abbrev pub invariant-loop-c : goal.invariant-loop-c
invariant-loop-c l = Rendering l.self.moment l.self.format.now l.initial.out l.out l.at l.to

abbrev pub decreases-loop-c : goal.decreases-loop-c
decreases-loop-c l = length l.self.format.now - l.at
