-- `first_day` meets its contract: every step of the table is a year's length, by one test of all of them.
use mathlib.Core.Path.{refl}
use Rattle.calendar.specs.Counting.{years}
use Rattle.calendar.specs.declared.years.TheConstants.{FIRST_DAYS}
use Rattle.calendar.proofs.Totals.{entry}
use Rattle.calendar.proofs.years.first_day.Goals as goal

pub returns : goal.returns
returns c = entry years FIRST_DAYS refl c.args.years c.requires
