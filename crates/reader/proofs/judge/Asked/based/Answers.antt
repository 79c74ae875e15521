-- `based` meets its contract: the value that was cut is judged as the whole value is.
use Rattle.reader.proofs.Laws.{cut_judged}
use Rattle.reader.proofs.judge.Asked.based.Goals as goal

pub returns : goal.returns
returns c = rw (c.judge.ensures, c.run_from.ensures.end, c.run_from.ensures.value) (cut_judged _ _ _ _ _ _ _)
