-- `lay_records` meets its contract. The loop's invariant is how far the laying has come (`Laying`). The measure is what is left of the
-- length.
use mathlib.Core.Path.{◌≡◌}
use Prim.Native.Nat.{◌-◌, ◌≤◌}
use lib.ListN.{length}
use Rattle.indexes.proofs.Laying.{Laying}
use Rattle.indexes.proofs.building.lay_records.Given as goal

abbrev pub invariant-loop-place : goal.invariant-loop-place
invariant-loop-place l = (l.place ≤ length l.table) × (length l.out ≡ length l.initial.out) × Laying l.table l.initial.out l.out l.count l.place

abbrev pub decreases-loop-place : goal.decreases-loop-place
decreases-loop-place l = length l.table - l.place
