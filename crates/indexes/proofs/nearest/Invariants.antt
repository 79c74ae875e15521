-- `nearest` meets its contract. The loop's invariant: with so many halvings left as its entries need, the search comes to what it comes to
-- among these. The measure is their number.
use mathlib.Core.Path.{◌≡◌}
use Prim.Native.Nat.{ℕ, ◌+◌, ◌^◌, ◌<◌, ◌≤◌}
use Rattle.indexes.specs.inner.Halving.{halvings, nearest}
use Rattle.indexes.proofs.nearest.Given as goal

abbrev pub invariant-loop-size : goal.invariant-loop-size
invariant-loop-size l =
    (l.first + l.size ≤ l.count) × (0 < l.count → 0 < l.size)
    × ((more : ℕ) × (l.size ≤ 2 ^ more) × (nearest halvings l.table l.index l.name 0 l.count ≡ nearest more l.table l.index l.name l.first l.size))

abbrev pub decreases-loop-size : goal.decreases-loop-size
decreases-loop-size l = l.size
