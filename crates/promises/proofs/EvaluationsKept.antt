-- What `evaluate` promises is kept: demand 3 is that of every trace, at the trace of the evaluation.
use mathlib.Core.Path.{◌≡◌, refl, ap, sym, subst, ◌∙◌}
use mathlib.Core.Bool.{true}
use mathlib.Core.List.Memᴰ
use mathlib.Core.List.{List}
use mathlib.Core.Logic.{◌↔◌}
use Prim.Native.Nat.{ℕ, ◌+◌, ◌-◌, ◌≤◌, ◌<◌}
use native.Mathlib.Omega.{arith}
use Rattle.paper.specs.Answers.{in_text}
use Rattle.paper.specs.Refusals.{allowance_spent, refusal_of}
use Rattle.paper.specs.declared.refusals.Refusal.TheVariants.{OverLength}
use Rattle.paper.specs.Traces.{Run, finished, refused, run, run_number, run_place, Succeeds, look_ups, allowed}
use Rattle.paper.proofs.Choice.{clash}
use Rattle.paper.proofs.Refused.{refused_above}
use Rattle.paper.proofs.DemandThree.{run_more, run_spent, finished_exactly}
use Rattle.variables.specs.Judgements.{Judgement, good, long_text, bad_table, judgement}
use Rattle.variables.proofs.Bounds.{bad_number}
use Rattle.variables.proofs.Judging.{refused as tables_refused}
use Rattle.expressions.specs.Answers.{reading_of, value_in, evaluated_by, evaluated, evaluated_number, evaluated_pattern}
use Rattle.paper.proofs.Told.{Told, run_told}
use Rattle.expressions.proofs.Orders.{by_judgement, when_good, when_long_text, when_bad_table, evaluated_listed, accepted}
use Rattle.promises.specs.Accepted.{is_evaluated}
use Rattle.promises.specs.Evaluations.{OneAnswer, Accepts, Refusals, Valued, Placed, JudgedAs, ByReading, Accepted, Larger, Spent}

pub one_answer : OneAnswer
one_answer text farm house allowance r r' c c' = c.answer ∙ sym c'.answer

accepts_run : (r : Run) (value : ℕ) → (evaluated_number (evaluated_by r value) ≡ 0) ↔ (is_evaluated (evaluated_by r value) ≡ true)
accepts_run (finished end left) value = (λ _. refl, λ _. refl)
accepts_run (refused number place) value = (λ z. absurd (refused_above (refusal_of number) z), λ z. clash (cc))

module _ (text farm house : List ℕ) (allowance : ℕ) where
  accepts_by : (d : Judgement) → judgement text farm house ≡ d
      → (evaluated_number (evaluated text farm house allowance) ≡ 0) ↔ (is_evaluated (evaluated text farm house allowance) ≡ true)
  accepts_by good e =
      subst (λ r. (evaluated_number r ≡ 0) ↔ (is_evaluated r ≡ true)) (sym (when_good text farm house allowance e))
      (accepts_run (run (reading_of text farm house) (allowed allowance)) (value_in text farm house))
  accepts_by long_text e =
      subst (λ r. (evaluated_number r ≡ 0) ↔ (is_evaluated r ≡ true)) (sym (by_judgement text farm house allowance long_text e))
      (λ z. absurd (refused_above OverLength z), λ z. clash (cc))
  accepts_by (bad_table why holder place) e =
      subst (λ r. (evaluated_number r ≡ 0) ↔ (is_evaluated r ≡ true)) (sym (by_judgement text farm house allowance (bad_table why holder place) e))
      (λ z. absurd (refused_above why z), λ z. clash (cc))

pub accepts : Accepts
accepts text farm house allowance r c =
    subst (λ r. (evaluated_number r ≡ 0) ↔ (is_evaluated r ≡ true)) (sym c.answer) (accepts_by text farm house allowance (judgement text farm house) refl)

pub refusals : Refusals
refusals text farm house allowance r c = Memᴰ.cast (ap evaluated_number c.answer) (evaluated_listed text farm house allowance)

-- the numbers of an answer by a run are the run's
placed_by : (r : Run) (value : ℕ) → Told r → Placed (run_number r) in_text (run_place r) (evaluated_by r value)
placed_by (finished end left) value t = record { number = refl; counted = refl; place = refl }
placed_by (refused number place) value t = record { number = t; counted = refl; place = refl }

module _ (text farm house : List ℕ) (allowance : ℕ) where
  judged_as : (d : Judgement) → judgement text farm house ≡ d → JudgedAs d (reading_of text farm house) allowance (evaluated text farm house allowance)
  judged_as good e =
      let ran = run (reading_of text farm house) (allowed allowance) in
      subst (Placed (run_number ran) in_text (run_place ran)) (sym (when_good text farm house allowance e)) (placed_by ran (value_in text farm house) (run_told (reading_of text farm house) (allowed allowance)))
  judged_as long_text e =
      let w = when_long_text text farm house allowance e in
      record { number = w.number; counted = w.counted; place = w.place }
  judged_as (bad_table why holder place) e =
      let w = when_bad_table text farm house allowance why holder place e in
      record { number = w.number; counted = w.counted; place = w.place }

pub by_reading : ByReading
by_reading text farm house allowance r c =
    subst (JudgedAs (judgement text farm house) (reading_of text farm house) allowance) (sym c.answer) (judged_as text farm house allowance (judgement text farm house) refl)

pub value_is : Valued
value_is text farm house allowance r c e =
    ap evaluated_pattern c.answer ∙ (accepted text farm house allowance (sym (ap evaluated_number c.answer) ∙ e)).pattern

pub larger : Larger
larger text farm house allowance allowance' r r' up c c' n = c'.answer ∙ go (judgement text farm house) refl ∙ sym c.answer
  where
    go : (d : Judgement) → judgement text farm house ≡ d → evaluated text farm house allowance' ≡ evaluated text farm house allowance
    go good e =
        let t = reading_of text farm house in
        let v = value_in text farm house in
        let added : allowed allowance + (allowed allowance' - allowed allowance) ≡ allowed allowance' = omega arith in
        let number : run_number (run t (allowed allowance)) ≡ evaluated_number r =
        sym (ap evaluated_number (c.answer ∙ when_good text farm house allowance e) ∙ (placed_by (run t (allowed allowance)) v (run_told t (allowed allowance))).number) in
        when_good text farm house allowance' e ∙ ap (λ l. evaluated_by (run t l) v) (sym added)
        ∙ run_more t (λ q. evaluated_by q v) (record { same = λ end l l'. refl }) (allowed allowance) (allowed allowance' - allowed allowance)
        (λ h. n (sym number ∙ h))
        ∙ sym (when_good text farm house allowance e)
    go long_text e = by_judgement text farm house allowance' long_text e ∙ sym (by_judgement text farm house allowance long_text e)
    go (bad_table why holder place) e =
        by_judgement text farm house allowance' (bad_table why holder place) e ∙ sym (by_judgement text farm house allowance (bad_table why holder place) e)

pub accepted_when : Accepted
accepted_when text farm house allowance r c = go (judgement text farm house) refl (by_reading text farm house allowance r c)
  where
    go : (d : Judgement) → judgement text farm house ≡ d → JudgedAs d (reading_of text farm house) allowance r
        → (evaluated_number r ≡ 0)
        ↔ ((judgement text farm house ≡ good) × (look_ups (reading_of text farm house) ≤ allowed allowance) × Succeeds (reading_of text farm house))
    go good e p =
        let exactly = finished_exactly (reading_of text farm house) (allowed allowance) in
        (λ h. let s = exactly.0 (sym p.number ∙ h) in (e, s.0, s.1), λ h. p.number ∙ exactly.1 (h.1, h.2))
    go long_text e p = (λ h. absurd (omega (arith, p.number)), λ h. clash (cc (e, h.0)))
    go (bad_table why holder place) e p = (
      λ h. absurd (omega (arith, p.number, bad_number farm house why holder place (tables_refused text farm house why holder place e).1)),
      λ h. clash (cc (e, h.0)),
    )

pub spent_comes : Spent
spent_comes text farm house allowance r c = go (judgement text farm house) refl (by_reading text farm house allowance r c)
  where
    go : (d : Judgement) → judgement text farm house ≡ d → JudgedAs d (reading_of text farm house) allowance r
        → (evaluated_number r ≡ allowance_spent) ↔ ((judgement text farm house ≡ good) × (allowed allowance < look_ups (reading_of text farm house)))
    go good e p =
        let exactly = run_spent (reading_of text farm house) (allowed allowance) in
        (λ h. (e, exactly.0 (sym p.number ∙ h)), λ h. p.number ∙ exactly.1 h.1)
    go long_text e p = (λ h. absurd (omega (arith, p.number)), λ h. clash (cc (e, h.0)))
    go (bad_table why holder place) e p = (
      λ h. absurd (omega (arith, p.number, bad_number farm house why holder place (tables_refused text farm house why holder place e).1)),
      λ h. clash (cc (e, h.0)),
    )
