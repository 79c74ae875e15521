-- `value_of` meets its contract: the part lies in the table that holds the variable.

use Rattle.variables.proofs.both.Tables.value_of.Goals as goal

pub returns : goal.returns
returns c = rw (c.part.ensures, c.held_by.ensures)
