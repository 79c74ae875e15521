-- `skip` meets its contract. The loop's invariant: the bytes passed and the run from there on are the run from the start on.
use mathlib.Core.Path.{◌≡◌}
use Prim.Native.Nat.{◌+◌}
use lib.ListN.{drop}
use Rattle.paper.specs.Bytes.{run_of, of_kind}
use Rattle.paper.proofs.bytes.skip.Given as goal

abbrev pub invariant-loop-at : goal.invariant-loop-at
invariant-loop-at l = l.start + run_of (of_kind l.kind) (drop l.start l.text) ≡ l.at + run_of (of_kind l.kind) (drop l.at l.text)
