-- The order of an evaluation's refusals: 18 for the text, then the judgement of the tables, then the run of the reading; and what an
-- answer's number tells.
use mathlib.Core.List.{List, Memᴰ}
use mathlib.Core.Path.{◌≡◌, refl, ap, sym, subst, ◌∙◌}
use Prim.Native.Nat.{ℕ, ◌≤◌, ◌<◌}
use lib.ListN.{length}
use Rattle.paper.specs.Answers.{in_text, counted_in}
use Rattle.std.specs.Prelude.{Result}
use Rattle.paper.specs.Refusals.{over_length, longest, refusal_number, refusal_of}
use Rattle.paper.specs.declared.refusals.BadTableOf.{BadTableOf}
use Rattle.paper.specs.declared.refusals.Refusal.{Refusal}
use Rattle.paper.specs.declared.refusals.Refusal.TheVariants.{OverLength}
use Rattle.paper.proofs.Refused.{refused_above}
use Rattle.paper.specs.Traces.{Run, finished, refused, run, allowed}
use Rattle.paper.specs.declared.Holder.{Holder}
use Rattle.variables.specs.Judgements.{judged as judged_tables, Judgement, good, long_text, bad_table, judged_by, judgement}
use Rattle.variables.proofs.Judging as Judging
use Rattle.arithmetic.specs.Values.{signed}
use Rattle.expressions.specs.Answers.{Evaluated, reading_of, value_in, refused_at, evaluated_by, evaluated_over, evaluated, evaluated_number, evaluated_counted, evaluated_place, evaluated_pattern, evaluated_value, evaluate_numbers}
use Rattle.expressions.proofs.Limits.{evaluated_bounded}

-- a refusal before the text is read: its number, what its place is counted in, its place
pub record RefusedWith (r : Evaluated) (n c p : ℕ) : Type 0 where
  pub number : evaluated_number r ≡ n
  pub counted : evaluated_counted r ≡ c
  pub place : evaluated_place r ≡ p

-- an answer that is accepted: the run came to its end, which is the answer's place, and the value is that of the reading
pub record Accepted (text farm house : List ℕ) (allowance : ℕ) (r : Evaluated) : Type 0 where
  pub judged : judgement text farm house ≡ good
  pub end : ℕ
  pub left : ℕ
  pub ran : run (reading_of text farm house) (allowed allowance) ≡ finished end left
  pub counted : evaluated_counted r ≡ in_text
  pub place : evaluated_place r ≡ end
  pub pattern : evaluated_pattern r ≡ value_in text farm house
  pub value : evaluated_value r ≡ signed (value_in text farm house)

module _ (text farm house : List ℕ) (allowance : ℕ) where
  abbrev ran_so : Run
  ran_so = run (reading_of text farm house) (allowed allowance)

  -- what is found before the text is read decides
  pub by_judgement : (j : Judgement) → judgement text farm house ≡ j → evaluated text farm house allowance ≡ evaluated_over j ran_so (value_in text farm house)
  unfolding evaluated
  by_judgement j e = ap (λ k. evaluated_over k ran_so (value_in text farm house)) e

  pub when_good : judgement text farm house ≡ good
      → evaluated text farm house allowance ≡ evaluated_by (run (reading_of text farm house) (allowed allowance)) (value_in text farm house)
  when_good = by_judgement good

  pub when_long_text : judgement text farm house ≡ long_text → RefusedWith (evaluated text farm house allowance) over_length in_text 0
  when_long_text e =
      subst (λ r. RefusedWith r over_length in_text 0) (sym (by_judgement long_text e)) (record { number = refl; counted = refl; place = refl })

  pub when_bad_table : (why : Refusal) (holder : Holder) (place : ℕ) → judgement text farm house ≡ bad_table why holder place
      → RefusedWith (evaluated text farm house allowance) (refusal_number why) (counted_in holder) place
  when_bad_table why holder place e =
      subst (λ r. RefusedWith r (refusal_number why) (counted_in holder) place) (sym (by_judgement (bad_table why holder place) e))
      (record { number = refl; counted = refl; place = refl })

  -- the same by the text's length and the judgement of the tables, as the code finds them
  pub too_long : longest < length text → evaluated text farm house allowance ≡ refused_at OverLength 0
  too_long h = by_judgement long_text (Judging.over text farm house h)

  pub over : (d : Result ℕ BadTableOf) → length text ≤ longest → judged_tables farm house ≡ d
      → evaluated_over (judged_by d) ran_so (value_in text farm house) ≡ evaluated text farm house allowance
  over d h e = sym (by_judgement (judged_by d) (Judging.within text farm house h ∙ ap judged_by e))

  -- every number is a listed one
  pub evaluated_listed : Memᴰ (evaluated_number (evaluated text farm house allowance)) evaluate_numbers
  evaluated_listed = (evaluated_bounded text farm house allowance).listed

-- an answer of number 0 has the value of the reading, and the place where its run came to the end
pub accepted : (text farm house : List ℕ) (allowance : ℕ) → evaluated_number (evaluated text farm house allowance) ≡ 0
    → Accepted text farm house allowance (evaluated text farm house allowance)
accepted text farm house allowance e = by_judged (judgement text farm house) refl
  where
    by_run : judgement text farm house ≡ good → (r : Run) → run (reading_of text farm house) (allowed allowance) ≡ r
        → Accepted text farm house allowance (evaluated text farm house allowance)
    by_run j (finished end left) q =
        let is = when_good text farm house allowance j ∙ ap (λ r. evaluated_by r (value_in text farm house)) q in
        record {
          judged = j;
          end = end;
          left = left;
          ran = q;
          counted = ap evaluated_counted is;
          place = ap evaluated_place is;
          pattern = ap evaluated_pattern is;
          value = ap evaluated_value is;
        }
    by_run j (refused number place) q =
        let is = when_good text farm house allowance j ∙ ap (λ r. evaluated_by r (value_in text farm house)) q in
        absurd (refused_above (refusal_of number) (sym (ap evaluated_number is) ∙ e))

    by_judged : (j : Judgement) → judgement text farm house ≡ j → Accepted text farm house allowance (evaluated text farm house allowance)
    by_judged good j = by_run j (run (reading_of text farm house) (allowed allowance)) refl
    by_judged long_text j = absurd (refused_above OverLength (sym (when_long_text text farm house allowance j).number ∙ e))
    by_judged (bad_table why holder place) j =
        absurd (refused_above why (sym (when_bad_table text farm house allowance why holder place j).number ∙ e))
