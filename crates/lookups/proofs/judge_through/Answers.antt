-- `judge_through` meets its contract: an index that serves leaves the judgement to the farm's table, and else both tables are checked.
use mathlib.Core.Bool.{true, false}
use mathlib.Core.Path.{ap, sym, ◌∙◌}
use Rattle.std.proofs.lemmas.Result.{err_from_is_err_and}
use Rattle.lookups.specs.inner.Through.{lines_of, judged_by}
use Rattle.lookups.proofs.Judging.{served_answer, unserved_answer}
use Rattle.lookups.proofs.judge_through.Goals as goal

pub returns-in_err-key_tables-clause-answer : goal.returns-in_err-key_tables-clause-answer
returns-in_err-key_tables-clause-answer c =
    let a = c.args in
    let p = err_from_is_err_and c.from_residual.result c.from_residual.ensures.1 in
    rw (p.1, p.2)
    (ap (λ r. judged_by r true (lines_of r)) c.in_err-key_tables.ensures.answer
    ∙ served_answer a.tables.now.farm.now a.tables.now.house.now a.index.now (sym c.is_served.ensures ∙ c.if-is_served.true))

pub returns-then-is_served-clause-answer : goal.returns-then-is_served-clause-answer
returns-then-is_served-clause-answer c =
    let a = c.args in
    ap (λ r. judged_by r true (lines_of r)) c.in_ok-key_tables.ensures.answer
    ∙ served_answer a.tables.now.farm.now a.tables.now.house.now a.index.now (sym c.is_served.ensures ∙ c.if-is_served.true)

pub returns-clause-answer : goal.returns-clause-answer
returns-clause-answer c =
    let a = c.args in
    ap (λ r. judged_by r false (lines_of r)) c.in_ok-key_tables-2.ensures.answer
    ∙ unserved_answer a.tables.now.farm.now a.tables.now.house.now a.index.now (sym c.is_served.ensures ∙ c.if-is_served.false)
