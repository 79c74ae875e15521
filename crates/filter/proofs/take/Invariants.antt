-- `take` ends: the room that is left gets smaller, and what was read stays inside the buffer.
use Rattle.std.proofs.Common.{length, ◌-◌, ◌≤◌, ◌≡◌}
use Rattle.filter.proofs.take.Given as goal

abbrev pub invariant-loop-text : goal.invariant-loop-text
invariant-loop-text g l = (l.text ≤ length l.input) × (length l.input ≡ length l.initial.input)

abbrev pub decreases-loop-text : goal.decreases-loop-text
decreases-loop-text g l = length l.initial.input - l.text
