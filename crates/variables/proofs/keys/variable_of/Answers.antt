-- `variable_of` meets its contract: the record is the one that the line says.
use Rattle.variables.specs.inner.Keys.{record_by}
use Rattle.variables.proofs.keys.variable_of.Goals as goal

pub returns : goal.returns
unfolding record_by
returns c = rw (c.variable_at.ensures, c.place_in.ensures, c.held_by.ensures, c.holder_of-holder.ensures)
