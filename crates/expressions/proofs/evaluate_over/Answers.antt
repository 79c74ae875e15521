-- `evaluate_over` meets its contract: the loosest level, then the end, then the value or why there is none.
use mathlib.Core.List.{List}
use mathlib.Core.Path.{◌≡◌, refl, sym, ap, ◌∙◌}
use Prim.Native.Nat.{ℕ}
use Rattle.std.specs.Prelude.{Result, Ok, Err}
use Rattle.std.proofs.lemmas.Result.{err_from_is_err_and}
use Rattle.paper.specs.Traces.{run}
use Rattle.paper.specs.declared.refusals.Refused.{Refused}
use Rattle.variables.specs.Names.{names_of}
use Rattle.arithmetic.specs.Operators.{loosest}
use Rattle.expressions.specs.Trees.{level_at, operand_at, tree_up_to, whole_tree}
use Rattle.expressions.specs.Answers.{Evaluated, reading_of, value_in, evaluated_by}
use Rattle.expressions.specs.inner.Steps.{part_of}
use Rattle.parts.specs.declared.behind.Wanted.TheVariants.{TextEnd}
use Rattle.parts.specs.declared.Part.{Part}
use Rattle.expressions.proofs.Joins.{ended_result, value_of, answer_of, part_ended, part_answer}
use Rattle.expressions.proofs.evaluate_over.Goals as goal

evaluated_whole : (text farm house : List ℕ) (left : ℕ) (part last : Result Part Refused) (r : Evaluated)
    → part ≡ part_of (names_of farm house) (Ok left) (level_at text loosest (operand_at text 16) 0) → last ≡ ended_result text TextEnd part → r ≡ answer_of last
    → r ≡ evaluated_by (run (reading_of text farm house) left) (value_in text farm house)
unfolding whole_tree
evaluated_whole text farm house left part last r p e h =
    let parsed = level_at text loosest (operand_at text 16) 0 in
    h ∙ ap answer_of (e ∙ ap (ended_result text TextEnd) p ∙ part_ended (names_of farm house) text TextEnd (Ok left) parsed)
    ∙ part_answer (names_of farm house) left (tree_up_to text TextEnd parsed)

pub returns-in_err-part : goal.returns-in_err-part
returns-in_err-part c =
    let p = err_from_is_err_and c.from_residual.result c.from_residual.ensures.1 in
    evaluated_whole _ _ _ _ _ _ _ c.in_err-part.ensures refl (p.1 ∙ ap Err p.2)

pub returns-in_err-whole : goal.returns-in_err-whole
returns-in_err-whole c =
    let p = err_from_is_err_and c.from_residual-in_err-whole.result c.from_residual-in_err-whole.ensures.1 in
    evaluated_whole _ _ _ _ _ _ _ c.in_ok-part.ensures c.in_err-whole.ensures (p.1 ∙ ap Err p.2)

pub returns-in_err-valued : goal.returns-in_err-valued
returns-in_err-valued c =
    let p = err_from_is_err_and c.from_residual-in_err-valued.result c.from_residual-in_err-valued.ensures.1 in
    evaluated_whole _ _ _ _ _ _ _ c.in_ok-part.ensures c.in_ok-whole.ensures
    (p.1 ∙ ap Err p.2 ∙ ap (λ outcome. value_of outcome c.in_ok-whole.whole.next) (sym c.in_err-valued.was))

pub returns : goal.returns
returns c =
    evaluated_whole _ _ _ _ _ _ _ c.in_ok-part.ensures c.in_ok-whole.ensures
    (ap (λ outcome. value_of outcome c.in_ok-whole.whole.next) (sym c.in_ok-valued.was))
