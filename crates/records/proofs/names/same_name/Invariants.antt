-- `same_name` meets its contract. The loop's invariant: the names are as long as each other, and equal if they are from there on.
use mathlib.Core.Path.{◌≡◌}
use lib.ListN.{length, drop}
use Rattle.records.specs.Records.{same_name}
use Rattle.records.proofs.names.same_name.Given as goal

abbrev pub invariant-loop-at : goal.invariant-loop-at
invariant-loop-at l = (length l.a ≡ length l.b) × (same_name l.a l.b ≡ same_name (drop l.at l.a) (drop l.at l.b))
