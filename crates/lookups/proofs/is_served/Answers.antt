-- `is_served` meets its contract: a table that is too long is not good.
use borrow.Author.Tests.{lt-ltb}
use Rattle.variables.specs.Tables.{checked}
use Rattle.lookups.proofs.is_served.Goals as goal

pub returns-then-house-gt-LONGEST : goal.returns-then-house-gt-LONGEST
unfolding checked
returns-then-house-gt-LONGEST c = rw (lt-ltb _ _ c.if-house-gt-LONGEST.true)
