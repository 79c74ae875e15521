-- `nos_check_table` meets its contract: a good table has few records.
use mathlib.Core.Path.{sym, subst, ◌∙◌}
use native.Mathlib.Omega.{arith}
use Rattle.variables.proofs.Bounds.{Bounded, checked_bounded}
use Rattle.nosgoludd.proofs.checks.nos_check_table.Goals as goal

pub overflow_cast-result : goal.overflow_cast-result
overflow_cast-result c =
    let few = subst Bounded (sym c.check_table-answer.ensures ∙ c.in-Ok.is) (checked_bounded c.args.table.now) in
    record { fits = omega (arith, few.count) }
