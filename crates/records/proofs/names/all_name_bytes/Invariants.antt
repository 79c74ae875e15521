-- `all_name_bytes` meets its contract. The loop's invariant: whether all bytes are allowed hangs on those from there on.
use mathlib.Core.Path.{◌≡◌}
use lib.ListN.{drop}
use Rattle.records.specs.Records.{all_name_bytes}
use Rattle.records.proofs.names.all_name_bytes.Given as goal

abbrev pub invariant-loop-c : goal.invariant-loop-c
invariant-loop-c l = all_name_bytes l.name ≡ all_name_bytes (drop l.c-index l.name)
