-- `scan` meets its contract. The loop's invariant: the scan comes to what it comes to from there on, with what is left of 256 records;
-- the records before are passed, their lines are laid, and these are noted.
-- The measure is what is left of the length.
use mathlib.Core.Path.{◌≡◌}
use Prim.Native.Nat.{◌-◌, ◌≤◌}
use lib.ListN.{length}
use Rattle.variables.specs.Tables.{scanned, most}
use Rattle.variables.specs.inner.Notes.{AllNoted}
use Rattle.variables.proofs.Passed.{Passed}
use Rattle.variables.proofs.scan.Given as goal

abbrev pub invariant-loop-place : goal.invariant-loop-place
invariant-loop-place l =
    (l.count ≤ most) × (l.place ≤ length l.table) × (most ≤ length l.initial.keys) × (length l.keys ≡ length l.initial.keys)
    × (scanned most 0 l.table 0 ≡ scanned (most - l.count) l.count l.table l.place) × Passed l.holder l.table l.initial.keys l.keys l.count l.place × AllNoted l.notes l.keys l.count

abbrev pub decreases-loop-place : goal.decreases-loop-place
decreases-loop-place l = length l.table - l.place
