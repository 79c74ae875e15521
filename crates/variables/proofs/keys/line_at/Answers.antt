-- `line_at` meets its contract: the place, the table's mark and the key of the name that stands there.
use Rattle.records.specs.Records.{entry_at}
use Rattle.variables.proofs.keys.line_at.Goals as goal

pub returns : goal.returns
unfolding entry_at
returns c = rw (c.mark_of.ensures.0, c.key_of-key.ensures.0, c.name_at.ensures)
