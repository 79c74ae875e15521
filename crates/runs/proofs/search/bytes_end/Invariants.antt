-- `bytes_end` meets its contract. The loop's invariant: no byte from the start up to here ends a run.
use Rattle.runs.specs.inner.Stretches.{Stretch}
use Rattle.runs.proofs.search.bytes_end.Given as goal

abbrev pub invariant-loop-at : goal.invariant-loop-at
invariant-loop-at g l = Stretch (g.E.Ends.plain_byte l.ends) l.text l.start l.at
