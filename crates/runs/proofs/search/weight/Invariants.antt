-- `weight` meets its contract. The loop's invariant: while the sum is 0, the bytes passed end no run; a block's length times the sum
-- grows by less than 256.
use mathlib.Core.Path.{◌≡◌}
use Prim.Native.Nat.{◌+◌, ◌*◌, ◌≤◌}
use Rattle.runs.specs.inner.Stretches.{Stretch}
use Rattle.runs.proofs.search.weight.Given as goal

abbrev pub invariant-loop-c : goal.invariant-loop-c
invariant-loop-c g l =
    let ends = g.E.Ends in
    (l.c-index ≤ ends.BLOCK) × (ends.BLOCK * l.sum ≤ 255 * l.c-index) × (l.sum ≡ 0 → Stretch (ends.plain_byte l.ends) l.text l.at (l.at + l.c-index))
