-- `convert_date` meets its contract: its tests are the definition's.
use mathlib.Core.Bool.{Bool, true, false, cond, not, ◌||◌}
use mathlib.Core.List.{List, [], ◌∷◌}
use mathlib.Core.Path.{◌≡◌, ap, ap₂, sym, ◌∙◌}
use Prim.Native.Nat.{ℕ, ◌+◌, ◌*◌, ◌≤◌, ◌<◌}
use native.Mathlib.Omega.{arith}
use lib.Dec.{eqb}
use lib.ListN.{length, get_or}
use borrow.Author.Tests.{lt-ltb, le-ltb, eq-eqb, ne_eqb, ltb-true, ltb-false}
use Rattle.paper.specs.Answers.{refusal, in_text}
use Rattle.std.specs.Prelude.{Err}
use Rattle.paper.specs.Layings.{Converted, converted_by}
use Rattle.paper.specs.Refusals.{over_length, longest}
use Rattle.paper.specs.declared.layings.NotWritten.{NotWritten}
use Rattle.paper.specs.declared.refusals.Refusal.TheVariants as Refusals
use Rattle.calendar.specs.Dates.{date_of}
use Rattle.calendar.specs.Moments.{moment_at}
use Rattle.calendar.specs.declared.Moment.{Moment}
use Rattle.dates.specs.Formats.{layout_of, string, fields_of}
use Rattle.dates.specs.Conversions.{number, unfit, dated, answer_by, buffer_by, date_answer, date_buffer}
use Rattle.dates.proofs.convert_date.Goals as goal
use Rattle.dates.proofs.convert_date.Goals.{in_default-via-then-time-lt5, in_default-via-else-time-lt5+else-time-lt6}

-- the definition picks what the code's tests led to
module _ (time format buf : List ℕ) (test : Bool) (e : unfit time format ≡ test) where
  picks : (date_answer time format (length buf) ≡ cond test (refusal over_length in_text 0 (length buf)) (answer_by (fields_of (layout_of format)) (dated time format) (length buf)))
      × (date_buffer time format buf ≡ cond test buf (buffer_by (fields_of (layout_of format)) (dated time format) buf))
  unfolding date_answer date_buffer
  picks = (
    ap (λ t. cond t (refusal over_length in_text 0 (length buf)) (answer_by (fields_of (layout_of format)) (dated time format) (length buf))) e,
    ap (λ t. cond t buf (buffer_by (fields_of (layout_of format)) (dated time format) buf)) e,
  )

refuses : (time format buf : List ℕ) → unfit time format ≡ true
    → (refused : NotWritten) → refused ≡ record { why = Refusals.OverLength; at = record { 0 = 0 }; need = 0; free = length buf }
    → (Err refused ≡ converted_by (date_answer time format (length buf))) × (buf ≡ date_buffer time format buf)
refuses time format buf e refused is = let p = picks time format buf true e in (ap Err is ∙ ap converted_by (sym p.0), sym p.1)

too_long : (time format : List ℕ) → longest < length format → unfit time format ≡ true
too_long time format h = ap (λ t. t || not (eqb (length time) 5)) (lt-ltb longest (length format) h)

fit : (time format : List ℕ) → length format ≤ longest → (length time ≡ 5) → unfit time format ≡ false
fit time format h f = ap₂ (λ a b. a || not b) (le-ltb longest (length format) h) (eq-eqb (length time) 5 f)

other_time : (time format : List ℕ) → length format ≤ longest → (length time ≡ 5 → ⊥) → unfit time format ≡ true
other_time time format h f = ap₂ (λ a b. a || not b) (le-ltb longest (length format) h) (ne_eqb (length time) 5 f)

-- a moment's conversion is that of its time
converts : (time format buf : List ℕ) (m : Moment) → m ≡ moment_at (number time) → unfit time format ≡ false → (r : Converted) (after : List ℕ)
    → (r ≡ converted_by (answer_by (fields_of (layout_of format)) (string m (layout_of format)) (length buf))) × (after ≡ buffer_by (fields_of (layout_of format)) (string m (layout_of format)) buf)
    → (r ≡ converted_by (date_answer time format (length buf))) × (after ≡ date_buffer time format buf)
converts time format buf m is e r after (a, b) =
    let p = picks time format buf false e in (
      a ∙ ap (λ m. converted_by (answer_by (fields_of (layout_of format)) (string m (layout_of format)) (length buf))) is ∙ ap converted_by (sym p.0),
      b ∙ ap (λ m. buffer_by (fields_of (layout_of format)) (string m (layout_of format)) buf) is ∙ sym p.1,
    )

-- months are counted from 1
first_month : (time : ℕ) (m : Moment) → m ≡ moment_at time → 1 ≤ m.month
unfolding moment_at date_of
first_month time m e = omega (arith, ap (λ m. m.month) e)

pub returns-then-format-gt-LONGEST : goal.returns-then-format-gt-LONGEST
returns-then-format-gt-LONGEST c =
    let a = c.args in
    let t = refuses a.time.now a.format.now a.buf.now (too_long a.time.now a.format.now c.if-format-gt-LONGEST.true) _ c.refused.ensures in
    record {
      answer = t.0;
      buffer = t.1;
    }

five : (l : List ℕ) → length l ≡ 5
    → number l ≡ get_or l 0 0 + 256 * get_or l 1 0 + 65536 * get_or l 2 0 + 16777216 * get_or l 3 0 + 4294967296 * get_or l 4 0
five [] h = absurd (omega arith)
five (a ∷ []) h = absurd (omega arith)
five (a ∷ b ∷ []) h = absurd (omega arith)
five (a ∷ b ∷ c ∷ []) h = absurd (omega arith)
five (a ∷ b ∷ c ∷ d ∷ []) h = absurd (omega arith)
five (a ∷ b ∷ c ∷ d ∷ e ∷ []) h = omega arith
five (a ∷ b ∷ c ∷ d ∷ e ∷ f ∷ l) h = absurd (omega arith)

-- a moment of the five bytes is that of the time
timed : (time : List ℕ) (low : ℕ) (m : Moment) → 5 ≤ length time → length time < 6
    → low ≡ get_or time 0 0 + get_or time 1 0 * 256 + get_or time 2 0 * 65536 + get_or time 3 0 * 16777216
    → m ≡ moment_at (low + 4294967296 * get_or time 4 0) → m ≡ moment_at (number time)
timed time low m least most l e = e ∙ ap moment_at (omega (arith, l, five time (omega arith)))

pub returns-in_default : goal.returns-in_default
returns-in_default c =
    let a = c.args in
    let other : length a.time.now ≡ 5 → ⊥ =
    elim c.in_default.branch [ in_default-via-then-time-lt5 w ↦ λ e. omega (arith, ltb-true, ltb-false) | in_default-via-else-time-lt5+else-time-lt6 w ↦ λ e. omega (arith, ltb-true, ltb-false) ] in
    let t = refuses a.time.now a.format.now a.buf.now (other_time a.time.now a.format.now c.if-format-gt-LONGEST.false other) _ c.refused-in_default.ensures in
    record {
      answer = t.0;
      buffer = t.1;
    }

pub invariant_of-formatted-clause-counted : goal.invariant_of-formatted-clause-counted
invariant_of-formatted-clause-counted c = first_month _ _ c.moment_of-moment.ensures

pub invariant_of-formatted-else-format-le-NEAR-clause-counted : goal.invariant_of-formatted-else-format-le-NEAR-clause-counted
invariant_of-formatted-else-format-le-NEAR-clause-counted c = first_month _ _ c.moment_of-moment.ensures

pub returns-then-format-le-NEAR : goal.returns-then-format-le-NEAR
returns-then-format-le-NEAR c =
    let a = c.args in
    let near = c.convert_near.ensures in
    let t =
    converts a.time.now a.format.now a.buf.now _ (timed _ _ _ c.in-len5.len_at_least c.in-len5.len_below c.from_le_bytes.ensures c.moment_of-moment.ensures)
    (fit a.time.now a.format.now c.if-format-gt-LONGEST.false (omega arith)) _ _ (near.answer, near.buffer) in
    record {
      answer = t.0;
      buffer = t.1;
    }

pub returns-else-format-le-NEAR : goal.returns-else-format-le-NEAR
returns-else-format-le-NEAR c =
    let a = c.args in
    let far = c.convert_far.ensures in
    let t =
    converts a.time.now a.format.now a.buf.now _ (timed _ _ _ c.in-len5.len_at_least c.in-len5.len_below c.from_le_bytes.ensures c.moment_of-moment.ensures)
    (fit a.time.now a.format.now c.if-format-gt-LONGEST.false (omega arith)) _ _ (far.answer, far.buffer) in
    record {
      answer = t.0;
      buffer = t.1;
    }
