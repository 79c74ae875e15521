-- `key_of` meets its contract. The loop's invariant: the key comes to what it comes to from there on.
use mathlib.Core.Path.{◌≡◌}
use Prim.Native.Nat.{◌<◌}
use lib.ListN.{drop}
use Rattle.records.specs.inner.Keys.{key_from}
use Rattle.records.proofs.names.key_of.Given as goal

abbrev pub invariant-loop-c : goal.invariant-loop-c
invariant-loop-c l = (l.key < 32768) × (key_from 0 l.name ≡ key_from l.key (drop l.c-index l.name))
