-- `fill` ends: what is left of the buffer falls.
use Rattle.std.proofs.Common.{◌-◌}
use Rattle.vectors.proofs.lines.Lines.fill.Given as goal

abbrev pub decreases-loop-self : goal.decreases-loop-self
decreases-loop-self g l = 524288 - l.self.end
