-- What `convert_date` promises is kept.
use mathlib.Core.Path.{◌≡◌, refl, ap, sym, subst₂, ◌∙◌}
use mathlib.Core.Bool.{true}
use mathlib.Core.List.{List, [], ◌∷◌, ◌++◌, Memᴰ}
use mathlib.Core.Logic.{◌↔◌}
use Prim.Native.Nat.{ℕ, ◌+◌, ◌≤◌, ◌<◌}
use native.Mathlib.Omega.{arith}
use lib.ListN.{length, drop}
use Rattle.paper.specs.Answers.{in_text, Answer, refusal, GrownWhole}
use Rattle.paper.specs.Layings.{Converted, converted_answer}
use Rattle.paper.specs.Refusals.{no_room, over_length, bad_field}
use Rattle.paper.proofs.Choice.{clash}
use Rattle.paper.proofs.Laid.{no_room_for, laid, grows_by}
use Rattle.calendar.specs.Moments.{day_of, moment_at}
use Rattle.calendar.proofs.DateLaws as Calendar
use Rattle.dates.specs.Formats.{layout_of, good, bad}
use Rattle.dates.specs.Conversions.{number, dated, date_answer}
use Rattle.dates.proofs.Layouts.{same_length, bad_inside, bad_percent}
use Rattle.dates.proofs.BadFields.{bad_at, leftmost}
use Rattle.dates.proofs.Outcomes as Outcomes
use Rattle.dates.proofs.Outcomes.{Outcome, unfits, stops, lays, converted_kept}
use Rattle.promises.specs.Allowed.{Dates}
use Rattle.promises.specs.Dates.{OneAnswer, Accepts, fields_in, needed, Refuses, Refusals, Tells, Exact, OffsetAndFree, BadField, Bytes, LargerRoom, SecondAsk, NeedByFormat, OfADay, LeapYears}
use Rattle.promises.proofs.Layings.{accepts_by, written, summed, again, refusal_grows}

pub one_answer : OneAnswer
one_answer time format buf after after' r r' c c' = (c.answer ∙ sym c'.answer, c.buffer ∙ sym c'.buffer)

pub accepts : Accepts
accepts time format buf after r c = accepts_by (date_answer time format (length buf)) r c.answer

-- how every answer and buffer that the contract allows comes out
outcome : (time format buf : List ℕ) (r : Converted) (after : List ℕ) → Dates time format buf r after → Outcome time format buf (converted_answer r) after
outcome time format buf r after c =
    subst₂ (Outcome time format buf) (sym (ap converted_answer c.answer ∙ converted_kept time format (length buf))) (sym c.buffer)
    (Outcomes.outcome time format buf)

-- fields are good, or bad at one place
not_both : (format : List ℕ) (at : ℕ) → fields_in format ≡ good → fields_in format ≡ bad at → ⊥
not_both format at p q = clash (cc)

one_place : (format : List ℕ) (at at' : ℕ) → fields_in format ≡ bad at → fields_in format ≡ bad at' → at ≡ at'
one_place format at at' p q = cc

module _ (time format buf : List ℕ) where
  refused_as : (a : Answer) (after : List ℕ) → Outcome time format buf a after → Refuses time format buf after a
  refused_as a after (unfits u) =
      record {
        unfit = (λ _. u, λ _. refl);
        field = λ at. (λ e. absurd (omega (arith, e.0)), λ f. absurd (u f.0));
        room = (λ e. absurd (omega arith), λ f. absurd (u f.0));
        accepted = (λ e. absurd (omega arith), λ f. absurd (u f.0));
        kept = λ _. refl;
      }
  refused_as a after (stops place five short b) =
      record {
        unfit = (λ e. absurd (omega arith), λ u. absurd (u (five, short)));
        field = λ at. (λ e. ((five, short), b ∙ ap bad e.1), λ f. (refl, one_place format place at b f.1));
        room = (λ e. absurd (omega arith), λ f. absurd (not_both format place f.1 b));
        accepted = (λ e. absurd (omega arith), λ f. absurd (not_both format place f.1 b));
        kept = λ _. refl;
      }
  refused_as a after (lays five short g (no_room_for less)) =
      record {
        unfit = (λ e. absurd (omega arith), λ u. absurd (u (five, short)));
        field = λ at. (λ e. absurd (omega (arith, e.0)), λ f. absurd (not_both format at g f.1));
        room = (λ _. ((five, short), g, less), λ _. refl);
        accepted = (λ e. absurd (omega arith), λ f. absurd (omega (arith, f.2)));
        kept = λ _. refl;
      }
  refused_as a after (lays five short g (laid room)) =
      record {
        unfit = (λ e. absurd (omega arith), λ u. absurd (u (five, short)));
        field = λ at. (λ e. absurd (omega (arith, e.0)), λ f. absurd (not_both format at g f.1));
        room = (λ e. absurd (omega arith), λ f. absurd (omega (arith, f.2)));
        accepted = (λ _. ((five, short), g, room), λ _. refl);
        kept = λ n. absurd (n refl);
      }

  told : (a : Answer) (after : List ℕ) → Outcome time format buf a after → Tells time format (length buf) a
  told a after (unfits u) =
      record {
        accepted = λ fit g room. absurd (u fit);
        no_room = λ fit g less. absurd (u fit);
        field = λ at fit b. absurd (u fit);
        unfit = λ _. refl;
      }
  told a after (stops place five short b) =
      record {
        accepted = λ fit g room. absurd (not_both format place g b);
        no_room = λ fit g less. absurd (not_both format place g b);
        field = λ at fit b'. ap (λ p. refusal bad_field in_text p (length buf)) (one_place format place at b b');
        unfit = λ u. absurd (u (five, short));
      }
  told a after (lays five short g (no_room_for less)) =
      record {
        accepted = λ fit g room. absurd (omega arith);
        no_room = λ fit g less. refl;
        field = λ at fit b. absurd (not_both format at g b);
        unfit = λ u. absurd (u (five, short));
      }
  told a after (lays five short g (laid room)) =
      record {
        accepted = λ fit g room. refl;
        no_room = λ fit g less. absurd (omega arith);
        field = λ at fit b. absurd (not_both format at g b);
        unfit = λ u. absurd (u (five, short));
      }

  accepted_leaves : (a : Answer) (after : List ℕ) → a.number ≡ 0 → Outcome time format buf a after
      → (a.place + a.free ≡ length buf) × (after ≡ dated time format ++ (0 ∷ drop (needed time format) buf))
  accepted_leaves a after e (unfits u) = absurd (omega arith)
  accepted_leaves a after e (stops at five short b) = absurd (omega arith)
  accepted_leaves a after e (lays five short g o) = (summed (dated time format) true buf a after e o, (written (dated time format) true buf a after e o).1)

pub refusals : Refusals
refusals time format buf after r c = refused_as time format buf (converted_answer r) after (outcome time format buf r after c)

pub exact : Exact
exact time format buf after r c = told time format buf (converted_answer r) after (outcome time format buf r after c)

pub offset_and_free : OffsetAndFree
offset_and_free time format buf after r c e = (accepted_leaves time format buf (converted_answer r) after e (outcome time format buf r after c)).0

pub bytes : Bytes
bytes time format buf after r c e = (accepted_leaves time format buf (converted_answer r) after e (outcome time format buf r after c)).1

pub bad_field_is : BadField
bad_field_is time format buf after r c e =
    let place = (converted_answer r).place in
    let b = (((refusals time format buf after r c).field place).0 (e, refl)).1 in
    let p = bad_at format place b in
    record { inside = bad_inside format place p; percent = bad_percent format place p; no_field = p; leftmost = leftmost format place b }

module _ (time format : List ℕ) (more : ℕ) (buf buf' : List ℕ) (longer : length buf' ≡ length buf + more) where
  grown : (a a' : Answer) (after after' : List ℕ) → Outcome time format buf a after → Outcome time format buf' a' after' → (a.number ≡ no_room → ⊥)
      → GrownWhole after buf' after' more a a'
  grown a a' after after' (unfits u) (unfits u') n = refusal_grows over_length 0 more buf buf' longer
  grown a a' after after' (unfits u) (stops at five short b) n = absurd (u (five, short))
  grown a a' after after' (unfits u) (lays five short g o) n = absurd (u (five, short))
  grown a a' after after' (stops at five short b) (unfits u) n = absurd (u (five, short))
  grown a a' after after' (stops at five short b) (stops at' five' short' b') n =
      rw (one_place format at' at b' b) (refusal_grows bad_field at more buf buf' longer)
  grown a a' after after' (stops at five short b) (lays five' short' g o) n = absurd (not_both format at g b)
  grown a a' after after' (lays five short g o) (unfits u) n = absurd (u (five, short))
  grown a a' after after' (lays five short g o) (stops at five' short' b) n = absurd (not_both format at g b)
  grown a a' after after' (lays five short g o) (lays five' short' g' o') n =
      grows_by (dated time format) true more buf buf' longer a a' after after' o o' n

pub larger_room : LargerRoom
larger_room time format more buf after buf' after' r r' longer c c' =
    grown time format more buf buf' longer (converted_answer r) (converted_answer r') after after' (outcome time format buf r after c)
    (outcome time format buf' r' after' c')

-- every time of five bytes has the need of one that is answered neither 18 nor 19
column : (time time' format buf after buf' after' : List ℕ) (a a' : Answer) → Outcome time format buf a after → Outcome time' format buf' a' after'
    → (a.number ≡ over_length → ⊥) → (a.number ≡ bad_field → ⊥) → length time' ≡ 5
    → (a'.need ≡ a.need) × ((a'.number ≡ 0) ↔ (a.need ≤ length buf'))
column time time' format buf after buf' after' a a' (unfits u) o m n five = absurd (m refl)
column time time' format buf after buf' after' a a' (stops at _ short b) o m n five = absurd (n refl)
column time time' format buf after buf' after' a a' (lays _ short g o) (unfits u) m n five = absurd (u (five, short))
column time time' format buf after buf' after' a a' (lays _ short g o) (stops at _ _ b) m n five = absurd (not_both format at g b)
column time time' format buf after buf' after' a a' (lays _ short g o) (lays _ _ _ o') m n five =
    again (dated time format) true buf (dated time' format) true buf'
    (ap (λ n. n + 1) (same_length (moment_at (number time')) (moment_at (number time)) (layout_of format))) a a' after after' o o'

pub need_by_format : NeedByFormat
need_by_format time time' format buf after buf' after' r r' c c' =
    column time time' format buf after buf' after' (converted_answer r) (converted_answer r') (outcome time format buf r after c) (outcome time' format buf' r' after' c')

pub second_ask : SecondAsk
second_ask time format buf after buf' after' r r' c e enough c' =
    let five = ((refusals time format buf after r c).room.0 e).0.0 in
    (need_by_format time time format buf after buf' after' r r' c c' (λ e'. omega arith) (λ e'. omega arith) five).1.1 enough

-- five bytes make less than 2 to the 40
below_day : (time : List ℕ) → length time ≡ 5 → ((b : ℕ) → Memᴰ b time → b < 256) → day_of (number time) < 127259
below_day (a ∷ b ∷ c ∷ d ∷ e ∷ []) five small =
    let h₀ = small a (Memᴰ.head refl) in
    let h₁ = small b (Memᴰ.tail (Memᴰ.head refl)) in
    let h₂ = small c (Memᴰ.tail (Memᴰ.tail (Memᴰ.head refl))) in
    let h₃ = small d (Memᴰ.tail (Memᴰ.tail (Memᴰ.tail (Memᴰ.head refl)))) in
    let h₄ = small e (Memᴰ.tail (Memᴰ.tail (Memᴰ.tail (Memᴰ.tail (Memᴰ.head refl))))) in
    omega arith
below_day [] five small = absurd (omega arith)
below_day (a ∷ []) five small = absurd (omega arith)
below_day (a ∷ b ∷ []) five small = absurd (omega arith)
below_day (a ∷ b ∷ c ∷ []) five small = absurd (omega arith)
below_day (a ∷ b ∷ c ∷ d ∷ []) five small = absurd (omega arith)
below_day (a ∷ b ∷ c ∷ d ∷ e ∷ f ∷ rest) five small = absurd (omega arith)

pub of_a_day : OfADay
of_a_day time five small =
    let early = below_day time five small in
    let day = day_of (number time) in (
      early,
      record { there_is = (Calendar.date_is day early).0; numbered = (Calendar.date_is day early).1; only = Calendar.date_only day early },
    )

pub leap_years : LeapYears
leap_years = Calendar.gregorian
