-- `open_gap` meets its contract. The loop's invariant: what stood behind there has gone up by two. The measure is what is left to go up.
use mathlib.Core.Path.{◌≡◌}
use Prim.Native.Nat.{◌+◌, ◌-◌, ◌≤◌}
use lib.ListN.{length}
use Rattle.indexes.specs.inner.Halving.{gap_in}
use Rattle.indexes.proofs.building.open_gap.Given as goal

abbrev pub invariant-loop-at : goal.invariant-loop-at
invariant-loop-at l =
    (l.from ≤ l.at) × (l.at ≤ l.end) × (l.end + 2 ≤ length l.initial.out) × (length l.out ≡ length l.initial.out) × (l.out ≡ gap_in l.at l.end l.initial.out)

abbrev pub decreases-loop-at : goal.decreases-loop-at
decreases-loop-at l = l.at - l.from
