-- Laws of what is shown of a translation: one that is written has as many bytes as it says, and a refusal leaves the buffer to its line.
use mathlib.Core.Path.{◌≡◌, refl, ap, ap₂, sym, subst, ◌∙◌}
use mathlib.Core.Bool.{Bool, true, false, cond}
use mathlib.Core.List.{List, [], ◌++◌}
use Prim.Native.Nat.{ℕ, ◌-◌}
use native.Mathlib.Omega.{arith}
use lib.Dec.{ltb}
use lib.ListN.{length, drop}
use borrow.Author.Tests.{ne_eqb}
use Rattle.paper.specs.Answers.{in_text}
use Rattle.std.specs.Prelude.{Ok, Err}
use Rattle.paper.specs.Refusals.{longest, refusal_of}
use Rattle.paper.specs.Traces.{Trace, Run, finished, refused, bytes, run, fit, allowed}
use Rattle.paper.proofs.Choice.{either}
use Rattle.paper.proofs.DemandThree.{refused_number}
use Rattle.variables.specs.Judgements.{Judgement, good, long_text, bad_table, judgement}
use Rattle.indexes.specs.Indexes.{Given, no_index, fits}
use Rattle.gs.specs.Translations.{Translation, reading_of, refused_at, translated_by, translated_over, left_by, translated, out_after}
use Rattle.gs.specs.declared.Translated.{Translated}
use Rattle.gs.specs.declared.NotTranslated.{NotTranslated}
use Rattle.filter.specs.Answers.{line_of, shown, answer_to}
use Rattle.filter.proofs.LineLaws.{Stands}

-- what a translation that is written says of its bytes
abbrev Sized : Translation → List ℕ → Type 0
Sized (Ok t) given = t.need ≡ length given
Sized (Err r) given = Unit {0}

module _ (trace : Trace) (allowance room : ℕ) where
  sized_run : (r : Run) → run trace allowance ≡ r → Sized (translated_by (fit r (length (bytes trace)) room)) (bytes trace)
  sized_run (finished end left) e =
      let size = length (bytes trace) in
      either (λ a. Sized (translated_by a) (bytes trace)) (ltb room size)
      {y = record { number = 0; counted = in_text; place = end; need = size; free = room - size }} (λ _. tt)
      (λ _. refl)
  sized_run (refused number place) e =
      subst (λ z. Sized (cond z (Ok (record { end = record { 0 = place }; need = 0; free = room })) (refused_at (refusal_of number) place 0 room)) (bytes trace))
      (sym (ne_eqb number 0 (λ z. absurd (omega (arith, z, refused_number trace allowance number place e))))) tt

sized_over : (j : Judgement) (fit : Bool) (trace : Trace) (allowance room : ℕ) → Sized (translated_over j fit trace allowance room) (bytes trace)
sized_over good false trace allowance room = tt
sized_over good true trace allowance room = sized_run trace (allowed allowance) room (run trace (allowed allowance)) refl
sized_over long_text fit trace allowance room = tt
sized_over (bad_table number holder place) fit trace allowance room = tt

sized : (text farm house : List ℕ) (given : Given) (flags allowance room : ℕ)
    → Sized (translated text farm house given flags allowance room) (bytes (reading_of text farm house flags))
unfolding translated
sized text farm house given flags allowance room = sized_over (judgement text farm house) (fits given house) (reading_of text farm house flags) allowance room

-- a translation with an empty table for both, no index and no flags, in the room that the program has
module _ (text table : List ℕ) (flags : ℕ) (out : List ℕ) (no_table : table ≡ []) (no-flags : flags ≡ 0)
    (room : length out ≡ longest) where
  abbrev told : Translation
  told = translated text table table no_index flags 0 (length out)

  abbrev given : List ℕ
  given = bytes (reading_of text table table flags)

  shown_answer : (r : Translation) → told ≡ r → shown r given ≡ answer_to text
  unfolding answer_to
  shown_answer r e =
      ap (λ r. shown r given) (sym e)
      ∙ ap (λ t. shown (translated text t t no_index flags 0 (length out)) (bytes (reading_of text t t flags))) no_table
      ∙ ap (λ f. shown (translated text [] [] no_index f 0 (length out)) (bytes (reading_of text [] [] f))) no-flags
      ∙ ap (λ n. shown (translated text [] [] no_index 0 0 n) (bytes (reading_of text [] [] 0))) room

  left_after : (after : List ℕ) (r : Translation) → after ≡ out_after text table table no_index flags 0 out → told ≡ r → after ≡ left_by r given out
  unfolding out_after
  left_after after r b e = b ∙ ap (λ r. left_by r given out) e

  pub written_answer : (after : List ℕ) (t : Translated) (answer : Translation) → after ≡ out_after text table table no_index flags 0 out
      → answer ≡ told → answer ≡ Ok t → Stands out (answer_to text) t.need after
  written_answer after t answer b e a =
      let is : told ≡ Ok t = sym e ∙ a in
      let same : given ≡ answer_to text = shown_answer (Ok t) is in
      let size : t.need ≡ length given = subst (λ r. Sized r given) is (sized text table table no_index flags 0 (length out)) in
      (size ∙ ap length same, left_after after (Ok t) b is ∙ ap (λ l. l ++ drop t.need out) same)

  -- a refusal leaves the buffer to its line
  pub line_answer : (r : NotTranslated) (answer : Translation) {middle after : List ℕ} {end : ℕ} → middle ≡ out_after text table table no_index flags 0 out
      → answer ≡ told → answer ≡ Err r → Stands middle (line_of r) end after → Stands out (answer_to text) end after
  line_answer r answer {end = end} b t a (ends, laid) =
      let e : told ≡ Err r = sym t ∙ a in
      let same : line_of r ≡ answer_to text = shown_answer (Err r) e in
      (ends ∙ ap length same, laid ∙ ap₂ (λ l o. l ++ drop end o) same (left_after _ (Err r) b e))
