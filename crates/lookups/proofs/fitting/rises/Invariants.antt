-- `rises` meets its contract. The loop's invariant: the entries before rise, and the last place is that of the one before.
use mathlib.Core.Path.{◌≡◌}
use Prim.Native.Nat.{ℕ, ◌+◌, ◌≤◌}
use Rattle.indexes.specs.inner.Halving.{place_in}
use Rattle.lookups.specs.inner.Fitting.{Rises}
use Rattle.lookups.proofs.fitting.rises.Given as goal

abbrev pub invariant-loop-entry : goal.invariant-loop-entry
invariant-loop-entry l =
    (1 ≤ l.entry) × (l.entry ≤ l.count) × Rises l.table l.marks l.index l.entry × ((k : ℕ) → k + 1 ≡ l.entry → l.last ≡ place_in l.index k)
