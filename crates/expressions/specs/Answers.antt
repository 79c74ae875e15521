-- What an evaluation answers.
use Rattle.std.specs.Prelude.{List, [], ◌∷◌, ◌++◌, ℕ, ℤ, Result, Ok, Err}
use Rattle.paper.specs.Answers.{in_text, counted_in}
use Rattle.paper.specs.Refusals.{no_digit, bad_base, too_big, unknown_name, too_deep, allowance_spent, bad_expression, zero_divisor, not_an_integer, refusal_number, refusal_of}
use Rattle.paper.specs.declared.refusals.Refusal.{Refusal}
use Rattle.paper.specs.declared.refusals.Refusal.TheVariants.{OverLength}
use Rattle.paper.specs.Traces.{Trace, Run, finished, refused, run, allowed}
use Rattle.variables.specs.Names.{names_of}
use Rattle.variables.specs.Judgements.{Judgement, good, long_text, bad_table, judgement}
use Rattle.variables.specs.Tables.{check_numbers}
use Rattle.expressions.specs.Trees.{whole_tree}
use Rattle.arithmetic.specs.Values.{signed}
use Rattle.expressions.specs.Evaluations.{evaluation, result}
use Rattle.expressions.specs.declared.Value.{Value}
use Rattle.expressions.specs.declared.NotEvaluated.{NotEvaluated}
use Rattle.expressions.specs.declared.NotEvaluated.TheVariants.{Refused, BadTable}

-- the paper's reading of an expression over two tables, the farm's and the house's, and its value
abbrev pub reading_of : List ℕ → List ℕ → List ℕ → Trace
reading_of text farm house = evaluation (names_of farm house) (whole_tree text)

abbrev pub value_in : List ℕ → List ℕ → List ℕ → ℕ
value_in text farm house = result (names_of farm house) (whole_tree text)

-- a value, or why there is none
abbrev pub Evaluated : Type 0
Evaluated = Result Value NotEvaluated

abbrev pub refused_at : Refusal → ℕ → Evaluated
refused_at why place = Err (Refused (record { why = why; at = record { 0 = place } }))

abbrev pub evaluated_by : Run → ℕ → Evaluated
evaluated_by (finished end left) value = Ok (record { pattern = value; end = record { 0 = end } })
evaluated_by (refused number place) value = refused_at (refusal_of number) place

-- by what is found before the text is read
abbrev pub evaluated_over : Judgement → Run → ℕ → Evaluated
evaluated_over good run value = evaluated_by run value
evaluated_over long_text run value = refused_at OverLength 0
evaluated_over (bad_table why holder place) run value = Err (BadTable (record { why = why; holder = holder; at = record { 0 = place } }))

-- 18 for the text, 18 and 13 for the tables, then the syntax, then the evaluation
unfoldable pub evaluated : List ℕ → List ℕ → List ℕ → ℕ → Evaluated
evaluated text farm house allowance =
    evaluated_over (judgement text farm house) (run (reading_of text farm house) (allowed allowance)) (value_in text farm house)

-- the paper's numbers of an answer: the refusal's number, 0 where accepted; what the place is counted in; the place; the value, 0 where
-- refused, as its pattern and as the signed number that it stands for
abbrev pub evaluated_number : Evaluated → ℕ
evaluated_number (Ok value) = 0
evaluated_number (Err (Refused text)) = refusal_number text.why
evaluated_number (Err (BadTable bad)) = refusal_number bad.why

abbrev pub evaluated_counted : Evaluated → ℕ
evaluated_counted (Ok value) = in_text
evaluated_counted (Err (Refused text)) = in_text
evaluated_counted (Err (BadTable bad)) = counted_in bad.holder

abbrev pub evaluated_place : Evaluated → ℕ
evaluated_place (Ok value) = value.end.0
evaluated_place (Err (Refused text)) = text.at.0
evaluated_place (Err (BadTable bad)) = bad.at.0

abbrev pub evaluated_pattern : Evaluated → ℕ
evaluated_pattern (Ok value) = value.pattern
evaluated_pattern (Err why) = 0

abbrev pub evaluated_value : Evaluated → ℤ
evaluated_value r = signed (evaluated_pattern r)

-- the numbers that an answer can have, in the order in which the refusals are looked for: those of a table's check, of the syntax, of the
-- evaluation
abbrev pub met_numbers : List ℕ
met_numbers =
    bad_expression ∷ too_deep ∷ no_digit ∷ bad_base ∷ too_big ∷ unknown_name ∷ not_an_integer ∷ allowance_spent ∷ zero_divisor ∷ []

abbrev pub evaluate_numbers : List ℕ
evaluate_numbers = check_numbers ++ met_numbers
