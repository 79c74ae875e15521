-- `scan_house` meets its contract: a scan counts no more records than both tables may have.
use native.Mathlib.Omega.{arith}
use mathlib.Core.Path.{sym, ◌∙◌}
use Rattle.paper.specs.declared.Holder.TheVariants.{House}
use Rattle.variables.proofs.Bounds.{count_bounded}
use Rattle.variables.proofs.Judging.{told_good}
use Rattle.variables.proofs.both.scan_house.Goals as goal

pub overflow_add-result : goal.overflow_add-result
overflow_add-result c =
    let good = told_good House c.scan.result c.in_ok-count.ensures in
    omega (arith, c.requires.0, count_bounded _ c.requires.1 (sym c.scan.ensures.answer ∙ good))
