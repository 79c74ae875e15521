-- `first_day` meets its contract: every step of the table is a month's length, by one test of all of them.
use mathlib.Core.Bool.{true}
use mathlib.Core.Path.{refl}
use Rattle.calendar.specs.Counting.{months}
use Rattle.calendar.specs.declared.months.TheConstants.{FIRST_DAYS}
use Rattle.calendar.proofs.Totals.{entry}
use Rattle.calendar.proofs.months.first_day.Goals as goal

pub returns : goal.returns
returns c = entry (months true) FIRST_DAYS refl c.args.before c.requires
