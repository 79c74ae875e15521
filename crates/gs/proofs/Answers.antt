-- A translation in the paper's numbers, by what was found of the text, its tables and the index, and what the buffer holds by the number
-- alone.
use mathlib.Core.Bool.{Bool, true, false}
use mathlib.Core.List.{List, ◌++◌}
use mathlib.Core.Path.{◌≡◌, refl, ap, ap₂, sym, subst, ◌∙◌}
use Prim.Native.Nat.{ℕ, ◌<◌}
use native.Mathlib.Omega.{arith}
use lib.Dec.{ltb}
use lib.ListN.{length, drop}
use Rattle.std.specs.Prelude.{Ok, Err}
use Rattle.paper.specs.Answers.{in_text, in_index, counted_in, Answer, refusal}
use Rattle.paper.specs.Refusals.{over_length, bad_index, refusal_number, refusal_of}
use Rattle.paper.specs.declared.refusals.Refusal.{Refusal}
use Rattle.paper.specs.declared.Holder.{Holder}
use Rattle.paper.specs.Traces.{bytes, Run, finished, refused, run, fit, answer, allowed}
use Rattle.paper.proofs.Choice.{either, other}
use Rattle.paper.proofs.DemandThree.{refused_number}
use Rattle.paper.proofs.Refused.{refused_above}
use Rattle.variables.specs.Judgements.{Judgement, good, long_text, bad_table, judgement}
use Rattle.indexes.specs.Indexes.{Given, fits}
use Rattle.gs.specs.Translations.{Translation, reading_of, translated_by, translated_over, translated, left_by, out_after, translated_answer}
use Rattle.gs.specs.declared.NotTranslated.TheVariants.{Refused, BadTable, BadIndex}
use Rattle.paper.proofs.Told.{Told, run_told}

-- an answer by a reading, handed out and told in the paper's numbers, is that answer
told_fit : (r : Run) (need room : ℕ) → ((number place : ℕ) → r ≡ refused number place → (1 < number) × (refusal_number (refusal_of number) ≡ number))
    → translated_answer (translated_by (fit r need room)) ≡ fit r need room
told_fit (finished end left) need room n =
    either (λ (a : Answer). translated_answer (translated_by a) ≡ a) (ltb room need) (λ _. refl) (λ _. refl)
told_fit (refused number place) need room n =
    let told = n number place refl in
    ap translated_answer (sym (other number 0 _ _ (λ z. absurd (omega (arith, told.0))) refl)) ∙ ap (λ k. refusal k in_text place room) told.1

module _ (text farm house : List ℕ) (given : Given) (flags allowance room : ℕ) where
  abbrev told : Judgement → Bool → Answer
  told j fit = translated_answer (translated_over j fit (reading_of text farm house flags) allowance room)

  pub good_answer : judgement text farm house ≡ good → fits given house ≡ true
      → translated_answer (translated text farm house given flags allowance room) ≡ answer (reading_of text farm house flags) (allowed allowance) room
  unfolding translated
  good_answer e f =
      let t = reading_of text farm house flags in
      ap₂ told e f
      ∙ told_fit (run t (allowed allowance)) (length (bytes t)) room
      (λ n p q. ((refused_number t (allowed allowance) n p q).0, subst Told q (run_told t (allowed allowance))))

  pub long_text_answer : judgement text farm house ≡ long_text
      → translated_answer (translated text farm house given flags allowance room) ≡ refusal over_length in_text 0 room
  unfolding translated
  long_text_answer e = ap (λ j. told j (fits given house)) e

  pub bad_index_answer : judgement text farm house ≡ good → fits given house ≡ false
      → translated_answer (translated text farm house given flags allowance room) ≡ refusal bad_index in_index 0 room
  unfolding translated
  bad_index_answer e f = ap₂ told e f

  pub bad_table_answer : (why : Refusal) (holder : Holder) (place : ℕ) → judgement text farm house ≡ bad_table why holder place
      → translated_answer (translated text farm house given flags allowance room) ≡ refusal (refusal_number why) (counted_in holder) place room
  unfolding translated
  bad_table_answer why holder place e = ap (λ j. told j (fits given house)) e

module _ (read out : List ℕ) where
  -- a translation that is refused has a number
  left_written : (r : Translation) → (translated_answer r).number ≡ 0 → left_by r read out ≡ read ++ drop (translated_answer r).need out
  left_written (Ok t) e = refl
  left_written (Err (Refused why at need free)) e = absurd (refused_above why e)
  left_written (Err (BadTable bad free)) e = absurd (refused_above bad.why e)
  left_written (Err (BadIndex free)) e = absurd (omega arith)

  left_refused : (r : Translation) → ((translated_answer r).number ≡ 0 → ⊥) → left_by r read out ≡ out
  left_refused (Ok t) n = absurd (n refl)
  left_refused (Err r) n = refl

module _ (text farm house : List ℕ) (given : Given) (flags allowance : ℕ) (out : List ℕ) where
  -- accepted: the bytes of the reading, and behind them what was there
  pub written_buffer : (translated_answer (translated text farm house given flags allowance (length out))).number ≡ 0
      → out_after text farm house given flags allowance out
      ≡ bytes (reading_of text farm house flags) ++ drop (translated_answer (translated text farm house given flags allowance (length out))).need out
  unfolding out_after
  written_buffer e =
      left_written (bytes (reading_of text farm house flags)) out (translated text farm house given flags allowance (length out)) e

  -- any other number: as it was
  pub kept_buffer : ((translated_answer (translated text farm house given flags allowance (length out))).number ≡ 0 → ⊥) → out_after text farm house given flags allowance out ≡ out
  unfolding out_after
  kept_buffer n = left_refused (bytes (reading_of text farm house flags)) out (translated text farm house given flags allowance (length out)) n
