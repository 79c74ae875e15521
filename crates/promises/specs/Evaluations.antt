-- What `evaluate` promises, over what its contract allows, in the paper's numbers of an answer. Demand 3 is stated over the trace of the
-- paper's own evaluation.
use Rattle.std.specs.Prelude.{◌≡◌, true, ◌↔◌, ℕ, ◌≤◌, ◌<◌}
use mathlib.Core.List.{List, Memᴰ}
use Rattle.paper.specs.Answers.{in_text, counted_in}
use Rattle.paper.specs.Refusals.{refusal_number, allowance_spent, over_length}
use Rattle.paper.specs.Traces.{Trace, run, run_number, run_place, Succeeds, look_ups, allowed}
use Rattle.variables.specs.Judgements.{Judgement, good, long_text, bad_table, judgement}
use Rattle.expressions.specs.Answers.{Evaluated, reading_of, value_in, evaluated_number, evaluated_counted, evaluated_place, evaluated_pattern, evaluate_numbers}
use Rattle.promises.specs.Accepted.{is_evaluated}
use Rattle.promises.specs.Allowed.{Evaluates}

-- one answer
abbrev pub OneAnswer : Type 0
OneAnswer = (text farm house : List ℕ) (allowance : ℕ) (r r' : Evaluated) → Evaluates text farm house allowance r → Evaluates text farm house allowance r' → r ≡ r'

-- the number is 0 exactly in the case of a value
abbrev pub Accepts : Type 0
Accepts = (text farm house : List ℕ) (allowance : ℕ) (r : Evaluated) → Evaluates text farm house allowance r → (evaluated_number r ≡ 0) ↔ (is_evaluated r ≡ true)

-- Demand 1: a value, or one of the listed refusals. Nothing is lent to be written to
abbrev pub Refusals : Type 0
Refusals = (text farm house : List ℕ) (allowance : ℕ) (r : Evaluated) → Evaluates text farm house allowance r → Memᴰ (evaluated_number r) evaluate_numbers

-- Demand 2: an accepted value is that of the paper's tree
abbrev pub Valued : Type 0
Valued =
    (text farm house : List ℕ) (allowance : ℕ) (r : Evaluated) → Evaluates text farm house allowance r
    → evaluated_number r ≡ 0 → evaluated_pattern r ≡ value_in text farm house

-- number, place and what it is counted in, whatever is found of text and tables before the text is read: 18 and 13 do not go by the
-- allowance; else they are those of the evaluation's run
pub record Placed (n in-what at : ℕ) (r : Evaluated) : Type 0 where
  pub number : evaluated_number r ≡ n
  pub counted : evaluated_counted r ≡ in-what
  pub place : evaluated_place r ≡ at

abbrev pub JudgedAs : Judgement → Trace → ℕ → Evaluated → Type 0
JudgedAs good reading allowance r = Placed (run_number (run reading (allowed allowance))) in_text (run_place (run reading (allowed allowance))) r
JudgedAs long_text reading allowance r = Placed over_length in_text 0 r
JudgedAs (bad_table why holder place) reading allowance r = Placed (refusal_number why) (counted_in holder) place r

abbrev pub ByReading : Type 0
ByReading =
    (text farm house : List ℕ) (allowance : ℕ) (r : Evaluated) → Evaluates text farm house allowance r
    → JudgedAs (judgement text farm house) (reading_of text farm house) allowance r

-- an expression is accepted exactly when it and its tables are good, and the reading succeeds within its allowance
abbrev pub Accepted : Type 0
Accepted =
    (text farm house : List ℕ) (allowance : ℕ) (r : Evaluated) → Evaluates text farm house allowance r
    → (evaluated_number r ≡ 0)
    ↔ ((judgement text farm house ≡ good) × (look_ups (reading_of text farm house) ≤ allowed allowance) × Succeeds (reading_of text farm house))

-- Demand 3: an answer other than Allowance spent stays the same under every larger allowance
abbrev pub Larger : Type 0
Larger =
    (text farm house : List ℕ) (allowance allowance' : ℕ) (r r' : Evaluated) → allowance ≤ allowance'
    → Evaluates text farm house allowance r → Evaluates text farm house allowance' r' → (evaluated_number r ≡ allowance_spent → ⊥) → r' ≡ r

-- Allowance spent comes exactly when the reading reaches one look-up more than allowed before any other refusal
abbrev pub Spent : Type 0
Spent =
    (text farm house : List ℕ) (allowance : ℕ) (r : Evaluated) → Evaluates text farm house allowance r
    → (evaluated_number r ≡ allowance_spent) ↔ ((judgement text farm house ≡ good) × (allowed allowance < look_ups (reading_of text farm house)))
