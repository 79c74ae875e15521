-- How the conversion of a date can come out, and that the code's answer has every number of the paper's.
use mathlib.Core.Bool.{Bool, true, false, cond, not, ◌||◌}
use mathlib.Core.List.{List}
use mathlib.Core.Path.{◌≡◌, refl}
use Prim.Native.Nat.{ℕ, ◌≤◌}
use native.Mathlib.Omega.{arith}
use lib.Dec.{eqb}
use lib.ListN.{length}
use borrow.Author.Tests.{ltb-true, ltb-false, eqb-true, eqb-false}
use Rattle.paper.specs.Answers.{in_text, Answer, refusal}
use Rattle.paper.specs.Layings.{converted_by, converted_answer}
use Rattle.paper.specs.Refusals.{over_length, bad_field, longest, too_long}
use Rattle.paper.proofs.Choice.{either}
use Rattle.paper.proofs.Claimed.{laying_kept}
use Rattle.paper.proofs.Laid as Laid
use Rattle.dates.specs.Formats.{layout_of, Fields, good, bad, fields_of}
use Rattle.dates.specs.Conversions.{unfit, dated, answer_by, buffer_by, date_answer, date_buffer}

-- a format over the limit or a time that has not five bytes; a bad field; or a string that is laid
pub data Outcome (time format buf : List ℕ) : Answer → List ℕ → Type 0 where
  unfits : ((length time ≡ 5) × (length format ≤ longest) → ⊥) → Outcome time format buf (refusal over_length in_text 0 (length buf)) buf
  stops : (at : ℕ) → length time ≡ 5 → length format ≤ longest → fields_of (layout_of format) ≡ bad at
      → Outcome time format buf (refusal bad_field in_text at (length buf)) buf
  lays : {a : Answer} {after : List ℕ} → length time ≡ 5 → length format ≤ longest → fields_of (layout_of format) ≡ good
      → Laid.Outcome (dated time format) true buf a after → Outcome time format buf a after

module _ (time format buf : List ℕ) where
  abbrev Comes : Fields → Bool → Type 0
  Comes fields u =
      let answer = answer_by fields (dated time format) (length buf) in
      let after = buffer_by fields (dated time format) buf in
      Outcome time format buf (cond u (refusal over_length in_text 0 (length buf)) answer) (cond u buf after)

  by_fields : length time ≡ 5 → length format ≤ longest → (fields : Fields) → fields_of (layout_of format) ≡ fields → Comes fields false
  by_fields five short good e = lays five short e (Laid.outcome (dated time format) true buf)
  by_fields five short (bad at) e = stops at five short e

  by_tests : (long five : Bool) → too_long format ≡ long → eqb (length time) 5 ≡ five → Comes (fields_of (layout_of format)) (long || not five)
  by_tests true five e f = unfits (λ fit. omega (arith, ltb-true longest (length format) e, fit.1))
  by_tests false true e f =
      by_fields (eqb-true (length time) 5 f) (omega (arith, ltb-false longest (length format) e)) (fields_of (layout_of format)) refl
  by_tests false false e f = unfits (λ fit. eqb-false (length time) 5 f fit.0)

  pub outcome : Outcome time format buf (date_answer time format (length buf)) (date_buffer time format buf)
  unfolding date_answer date_buffer
  outcome = by_tests (too_long format) (eqb (length time) 5) refl refl

module _ (time format : List ℕ) (room : ℕ) where
  abbrev Kept : Answer → Type 0
  Kept a = converted_answer (converted_by a) ≡ a

  kept_by : (fields : Fields) → Kept (answer_by fields (dated time format) room)
  kept_by good = laying_kept (length (dated time format)) true room
  kept_by (bad at) = refl

  pub converted_kept : converted_answer (converted_by (date_answer time format room)) ≡ date_answer time format room
  unfolding date_answer
  converted_kept = either Kept (unfit time format) (λ _. refl) (λ _. kept_by (fields_of (layout_of format)))
