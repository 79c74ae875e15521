-- Parts as the code carries them are those of the trees: under one operand's operator, between two operands, in brackets, at the end.
use mathlib.Core.Bool.{Bool, true, false, cond, ◌&&◌}
use mathlib.Core.List.{List}
use mathlib.Core.Path.{◌≡◌, refl, sym, ap, ◌∙◌}
use Prim.Native.Nat.{ℕ, zero, suc}
use lib.Dec.{eqb}
use Rattle.std.specs.Prelude.{Result, Ok, Err}
use Rattle.paper.specs.Traces.{Trace, Run, finished, refused, run, ended as end_at, faults}
use Rattle.paper.specs.declared.faults.Fault.TheVariants.{BadExpression, ZeroDivisor}
use Rattle.paper.specs.declared.refusals.Refusal.TheVariants as Why
use Rattle.paper.specs.declared.refusals.Refused.{Refused}
use Rattle.paper.proofs.Told.{refused_by}
use Rattle.variables.specs.Names.{Meaning, unknown, string_of, integer_of, macro_of}
use Rattle.arithmetic.specs.Operators.{divides}
use Rattle.tokens.specs.Tokens.{Lexeme, token_at}
use Rattle.parts.specs.Links.{wants}
use Rattle.expressions.specs.Trees.{Tree, constant, variable, unary, binary, Parsed, tree, faulty, covered, tree_up_to}
use Rattle.expressions.specs.Evaluations.{name_steps, divided, tree_value, steps, evaluation, result}
use Rattle.expressions.specs.Answers.{Evaluated, evaluated_by}
use Rattle.expressions.specs.declared.NotEvaluated.TheVariants as Not
use Rattle.parts.specs.inner.Steps.{Account, Outcome, refused_at, account_of, covered_outcome, covered_part, applied_outcome, joined_outcome, up_to_by, part_up_to}
use Rattle.expressions.specs.inner.Steps.{outcome_by, outcome_of, part_of}
use Rattle.arithmetic.specs.declared.operators.Operator.{Operator}
use Rattle.parts.specs.declared.behind.Wanted.{Wanted}
use Rattle.parts.specs.declared.Part.{Part}

-- what the code makes of a part that it read, or of its refusal: under an operator, up to what is wanted behind it, as an answer
abbrev pub covered_result : Operator → Result Part Refused → Result Part Refused
covered_result operator (Ok part) = Ok (covered_part operator part)
covered_result operator (Err refusal) = Err refusal

abbrev pub ended_result : List ℕ → Wanted → Result Part Refused → Result Part Refused
ended_result text wanted (Ok part) = part_up_to text wanted part
ended_result text wanted (Err refusal) = Err refusal

abbrev pub value_of : Outcome → ℕ → Evaluated
value_of (Ok valued) end = Ok (record { pattern = valued.pattern; end = record { 0 = end } })
value_of (Err refusal) end = Err (Not.Refused refusal)

abbrev pub answer_of : Result Part Refused → Evaluated
answer_of (Ok part) = value_of part.outcome part.next
answer_of (Err refusal) = Err (Not.Refused refusal)

-- behind a run that finished the rest is run with the look-ups left
abbrev continued : Run → Trace → Run
continued (finished end left) rest = run rest left
continued (refused number place) rest = refused number place

continued_on : (r : Run) (middle rest : Trace) (whole : Trace) → ((left : ℕ) → run whole left ≡ continued (run middle left) rest)
    → continued r whole ≡ continued (continued r middle) rest
continued_on (finished end left) middle rest whole h = h left
continued_on (refused number place) middle rest whole h = refl

name_run : (m : Meaning) (place left : ℕ) (rest : Trace) → run (name_steps m place rest) left ≡ continued (run (name_steps m place (end_at 0)) left) rest
name_run unknown place left rest = refl
name_run (string_of value) place left rest = refl
name_run (macro_of value) place left rest = refl
name_run (integer_of pattern) place zero rest = refl
name_run (integer_of pattern) place (suc left) rest = refl

divided_run : (operator : Operator) (place rhs left : ℕ) (rest : Trace)
    → run (divided operator place rhs rest) left ≡ continued (run (divided operator place rhs (end_at 0)) left) rest
unfolding divided
divided_run operator place rhs left rest = either_way (divides operator && eqb rhs 0)
  where
    either_way : (b : Bool) → run (cond b (faults ZeroDivisor place) rest) left ≡ continued (run (cond b (faults ZeroDivisor place) (end_at 0)) left) rest
    either_way true = refl
    either_way false = refl

module _ (names : List ℕ → Meaning) where
  -- what a tree asks, spends and is refused for does not go by what comes behind it
  pub steps_run : (t : Tree) (left : ℕ) (rest : Trace) → run (steps names t rest) left ≡ continued (run (steps names t (end_at 0)) left) rest
  steps_run (constant pattern) left rest = refl
  steps_run (variable word place) left rest = name_run (names word) place left rest
  steps_run (unary operator inner) left rest = steps_run inner left rest
  steps_run (binary operator place lhs rhs) left rest =
      let last : Trace → Trace = divided operator place (tree_value names rhs) in
      steps_run lhs left (steps names rhs (last rest))
      ∙ continued_on (run (steps names lhs (end_at 0)) left) (steps names rhs (last (end_at 0))) rest (steps names rhs (last rest))
      (λ m. steps_run rhs m (last rest)
      ∙ continued_on (run (steps names rhs (end_at 0)) m) (last (end_at 0)) rest (last rest) (λ n. divided_run operator place (tree_value names rhs) n rest)
      ∙ ap (λ x. continued x rest) (sym (steps_run rhs m (last (end_at 0)))))
      ∙ ap (λ x. continued x rest) (sym (steps_run lhs left (steps names rhs (last (end_at 0)))))

  pub part_covered : (operator : Operator) (account : Account) (parsed : Parsed)
      → covered_result operator (part_of names account parsed) ≡ part_of names account (covered operator parsed)
  part_covered operator account (faulty fault place) = refl
  part_covered operator (Err refusal) (tree inner next) = refl
  part_covered operator (Ok left) (tree inner next) = by (run (steps names inner (end_at 0)) left)
    where
      made : Outcome → Result Part Refused
      made outcome = Ok (record { outcome = outcome; next = next })

      by : (r : Run) → made (covered_outcome operator (outcome_by r (tree_value names inner))) ≡ made (outcome_by r (tree_value names (unary operator inner)))
      by (finished end left') = refl
      by (refused number place) = refl

  -- two operands, the right one evaluated behind the left one
  module _ (operator : Operator) (place : ℕ) (lhs rhs : Tree) where
    abbrev both : Tree
    both = binary operator place lhs rhs

    applied_run : (left before : ℕ)
        → applied_outcome operator place (record { pattern = tree_value names lhs; left = before }) (record { pattern = tree_value names rhs; left = left })
        ≡ outcome_by (run (divided operator place (tree_value names rhs) (end_at 0)) left) (tree_value names both)
    unfolding applied_outcome divided
    applied_run left before = either_way (divides operator && eqb (tree_value names rhs) 0)
      where
        either_way : (b : Bool)
            → ◌≡◌ {A = Outcome} (cond b (Err (refused_at Why.ZeroDivisor place)) (Ok (record { pattern = tree_value names both; left = left })))
            (outcome_by (run (cond b (faults ZeroDivisor place) (end_at 0)) left) (tree_value names both))
        either_way true = refl
        either_way false = refl

    rhs_joined : (before : ℕ) (y : Run)
        → joined_outcome operator place (Ok (record { pattern = tree_value names lhs; left = before })) (outcome_by y (tree_value names rhs))
        ≡ outcome_by (continued y (divided operator place (tree_value names rhs) (end_at 0))) (tree_value names both)
    rhs_joined before (finished end left) = applied_run left before
    rhs_joined before (refused number first) = refl

    lhs_joined : (x : Run)
        → joined_outcome operator place (outcome_by x (tree_value names lhs)) (outcome_of names (account_of (outcome_by x (tree_value names lhs))) rhs)
        ≡ outcome_by (continued x (steps names rhs (divided operator place (tree_value names rhs) (end_at 0)))) (tree_value names both)
    lhs_joined (refused number place') = refl
    lhs_joined (finished end left) =
        rhs_joined left (run (steps names rhs (end_at 0)) left)
        ∙ ap (λ x. outcome_by x (tree_value names both)) (sym (steps_run rhs left (divided operator place (tree_value names rhs) (end_at 0))))

    pub outcome_joined : (account : Account)
        → joined_outcome operator place (outcome_of names account lhs) (outcome_of names (account_of (outcome_of names account lhs)) rhs)
        ≡ outcome_of names account both
    outcome_joined (Err refusal) = refl
    outcome_joined (Ok left) =
        lhs_joined (run (steps names lhs (end_at 0)) left)
        ∙ ap (λ x. outcome_by x (tree_value names both)) (sym (steps_run lhs left (steps names rhs (divided operator place (tree_value names rhs) (end_at 0)))))

  pub part_ended : (text : List ℕ) (wanted : Wanted) (account : Account) (parsed : Parsed)
      → ended_result text wanted (part_of names account parsed) ≡ part_of names account (tree_up_to text wanted parsed)
  part_ended text wanted account (faulty fault place) = refl
  part_ended text wanted account (tree inner at) = either_way (wants wanted behind.token)
    where
      behind : Lexeme
      behind = token_at text at

      either_way : (b : Bool) → up_to_by (record { outcome = outcome_of names account inner; next = at }) (cond b (Ok behind.next) (Err (refused_at Why.BadExpression behind.place)))
          ≡ part_of names account (cond b (tree inner behind.next) (faulty BadExpression behind.place))
      either_way true = refl
      either_way false = refl

  -- the answer that the code makes of a part is that of the evaluation
  pub part_answer : (left : ℕ) (parsed : Parsed)
      → answer_of (part_of names (Ok left) parsed) ≡ evaluated_by (run (evaluation names parsed) left) (result names parsed)
  part_answer left (faulty fault place) = ap (λ why. Err (Not.Refused (refused_at why place))) (sym (refused_by fault))
  part_answer left (tree whole end) =
      by (run (steps names whole (end_at 0)) left) ∙ ap (λ r. evaluated_by r (tree_value names whole)) (sym (steps_run whole left (end_at end)))
    where
      by : (r : Run) → value_of (outcome_by r (tree_value names whole)) end ≡ evaluated_by (continued r (end_at end)) (tree_value names whole)
      by (finished end' left') = refl
      by (refused number place) = refl
