-- `mark_records` meets its contract. The loop's invariant: the walk comes to what it comes to from there on, with what is left of 256
-- records, and the records from there on are still to be marked. The measure is what is left of the length.
use mathlib.Core.Bool.{◌||◌}
use mathlib.Core.Path.{◌≡◌}
use Prim.Native.Nat.{ℕ, ◌-◌, ◌≤◌}
use lib.ListN.{length}
use Rattle.variables.specs.Tables.{most, entries, records_of}
use Rattle.lookups.specs.inner.Fitting.{marked, starts_one, shaped_from, shaped_in}
use Rattle.lookups.proofs.fitting.mark_records.Given as goal

abbrev pub invariant-loop-place : goal.invariant-loop-place
invariant-loop-place l =
    record {
      few : l.count ≤ most;
      counted : shaped_in l.table ≡ shaped_from (most - l.count) l.count l.table l.place;
      marked :
          (p : ℕ) → (starts_one (records_of l.table) p || marked l.initial.marks p)
          ≡ (starts_one (entries (most - l.count) l.table (length l.table) l.place) p || marked l.marks p);
    }

abbrev pub decreases-loop-place : goal.decreases-loop-place
decreases-loop-place l = length l.table - l.place
