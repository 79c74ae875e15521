-- `in_month` meets its contract: where the next month has not begun, the one that the division names has.
use mathlib.Core.Path.{subst, sym}
use Prim.Native.Nat.{◌≤◌, ◌<◌}
use Rattle.calendar.proofs.InMonths.{this_month}
use Rattle.calendar.proofs.months.in_month.Goals as goal

pub overflow_sub-result-2 : goal.overflow_sub-result-2
overflow_sub-result-2 c =
    let number = c.in_leap_year-number in
    let later = subst (λ f. number.result < f) c.first_day-next.ensures c.if-next-number.false in
    subst (λ f. f ≤ number.result) (sym c.first_day.ensures) (this_month c.args.leap c.args.day c.requires number.result number.ensures later).1
