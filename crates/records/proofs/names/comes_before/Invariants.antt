-- `comes_before` meets its contract. The loop's invariant: which name comes first hangs on their bytes from there on.
use mathlib.Core.Path.{◌≡◌}
use lib.ListN.{length, drop}
use Rattle.records.specs.Records.{comes_before}
use Rattle.records.proofs.names.comes_before.Given as goal

abbrev pub invariant-loop-x : goal.invariant-loop-x
invariant-loop-x l =
    (goal.iterator-loop-x).can_next l.x-iterator × (goal.iterator-loop-x).is_finite l.x-iterator
    × (comes_before l.a l.b ≡ comes_before (drop (length l.yielded) l.a) (drop (length l.yielded) l.b))
