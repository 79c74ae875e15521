-- Laws of layouts: every piece lies inside its format, a field shows as many characters of every moment, and a string is no longer than
-- its format.
use mathlib.Core.Bool.{true, cond}
use mathlib.Core.List.{List, ◌++◌}
use mathlib.Core.Path.{◌≡◌, refl, ap}
use Prim.Native.Nat.{ℕ, zero, suc, ◌+◌, ◌-◌, ◌%◌, ◌≤◌, ◌<◌}
use native.Mathlib.Decide.{dec_lt}
use native.Mathlib.Omega.{arith}
use lib.Dec.{eqb, ltb}
use lib.ListN.{length, get_or, length-append, get_or-eq_default}
use borrow.Author.Tests.{ltb-true, eqb-true, eqb-false}
use Rattle.std.specs.Prelude.{Option, Some}
use Rattle.paper.proofs.Choice.{either, clash}
use Rattle.forms.specs.Digits.{digits}
use Rattle.calendar.specs.declared.Moment.{Moment}
use Rattle.dates.specs.Fields.{pair, date_field, field_named, shown}
use Rattle.dates.specs.Formats.{named, behind_percent, piece_at, Layout, ended, copies, shows, bad_field_at, laid_out, layout_from, string}
use Rattle.dates.specs.declared.fields.Field.{Field}
use Rattle.dates.specs.declared.fields.Field.TheVariants.{Hundredths, Seconds, Minutes, Hours, Day, Month, MonthName, Century, Year, DayOfYear, WeekdayName}
use Rattle.dates.specs.declared.pieces.Piece.{Piece}
use Rattle.dates.specs.declared.pieces.Piece.TheVariants.{End, Copied, Percent, Shown, Bad}

-- how many bytes of its format a piece has, a bad field its percent sign at least
abbrev pub span : Piece → ℕ
span End = 0
span (Copied c) = 1
span Percent = 2
span (Shown field) = 3
span Bad = 1

-- a byte that is not zero lies inside
pub inside : (format : List ℕ) (at : ℕ) → (get_or format at 0 ≡ 0 → ⊥) → at < length format
inside format at h = go (dec_lt at (length format))
  where
    go : Dec (at < length format) → at < length format
    go (yes p) = p
    go (no p) = absurd (h (get_or-eq_default format 0 (omega arith)))

-- no field's second character is a zero
module _ (n k : ℕ) (one : 1 ≤ k) (three : (n % 256 ≡ 0 → ⊥) → 3 ≤ k) where
  or_else : (v : ℕ) (field : Field) (rest : Option Field) → ltb 0 (v % 256) ≡ true → span (named rest) ≤ k → span (named (cond (eqb n v) (Some field) rest)) ≤ k
  or_else v field rest low r =
      either (λ name. span (named name) ≤ k) (eqb n v)
      (λ e. three (λ z. omega (arith, ltb-true 0 (v % 256) low, ap (λ x. x % 256) (eqb-true n v e))))
      (λ _. r)

  name_span : span (named (field_named n)) ≤ k
  unfolding field_named date_field
  name_span =
      or_else _ _ _ refl (or_else _ _ _ refl (or_else _ _ _ refl (or_else _ _ _ refl (or_else _ _ _ refl (or_else _ _ _ refl
      (or_else _ _ _ refl (or_else _ _ _ refl (or_else _ _ _ refl (or_else _ _ _ refl (or_else _ _ _ refl one))))))))))

module _ (format : List ℕ) (at : ℕ) where
  behind_span : at < length format → span (behind_percent (get_or format (at + 1) 0) (get_or format (at + 2) 0)) ≤ length format - at
  behind_span h =
      either (λ p. span p ≤ length format - at) (eqb (get_or format (at + 1) 0) 37)
      (λ e. omega (arith, inside format (at + 1) (λ z. omega (arith, eqb-true (get_or format (at + 1) 0) 37 e))))
      (λ _.
      name_span (pair (get_or format (at + 1) 0) (get_or format (at + 2) 0)) (length format - at) (omega arith)
      (λ low. omega (arith, inside format (at + 2) (λ z. low (omega arith)))))

  -- every piece lies inside
  pub piece_span : span (piece_at format at) ≤ length format - at
  unfolding piece_at
  piece_span =
      either (λ p. span p ≤ length format - at) (eqb (get_or format at 0) 0) (λ _. omega arith)
      (λ n.
      let h : at < length format = inside format at (eqb-false (get_or format at 0) 0 n) in
      either (λ p. span p ≤ length format - at) (eqb (get_or format at 0) 37) (λ _. behind_span h) (λ _. omega arith))

  pub copied_inside : {c : ℕ} → piece_at format at ≡ Copied c → at < length format
  copied_inside e = omega (arith, piece_span, ap span e)

  pub percent_inside : piece_at format at ≡ Percent → at + 1 < length format
  percent_inside e = omega (arith, piece_span, ap span e)

  pub shown_inside : {field : Field} → piece_at format at ≡ Shown field → at + 2 < length format
  shown_inside e = omega (arith, piece_span, ap span e)

  pub bad_inside : piece_at format at ≡ Bad → at < length format
  bad_inside e = omega (arith, piece_span, ap span e)

  -- a bad field has its percent sign
  pub bad_percent : piece_at format at ≡ Bad → get_or format at 0 ≡ 37
  unfolding piece_at
  bad_percent =
      either (λ p. p ≡ Bad → get_or format at 0 ≡ 37) (eqb (get_or format at 0) 0) (λ _ e. clash (cc))
      (λ _.
      either (λ p. p ≡ Bad → get_or format at 0 ≡ 37) (eqb (get_or format at 0) 37) (λ t _. eqb-true (get_or format at 0) 37 t) (λ _ e. clash (cc)))

-- how many characters a field shows, of whatever moment
abbrev pub width : Field → ℕ
width Hundredths = 2
width Seconds = 2
width Minutes = 2
width Hours = 2
width Day = 2
width Month = 2
width MonthName = 3
width Century = 2
width Year = 2
width DayOfYear = 3
width WeekdayName = 3

pub shown_length : (field : Field) (m : Moment) → length (shown field m) ≡ width field
unfolding shown digits
shown_length Hundredths m = refl
shown_length Seconds m = refl
shown_length Minutes m = refl
shown_length Hours m = refl
shown_length Day m = refl
shown_length Month m = refl
shown_length MonthName m = refl
shown_length Century m = refl
shown_length Year m = refl
shown_length DayOfYear m = refl
shown_length WeekdayName m = refl

-- no more than it has in its format
pub width_most : (field : Field) → width field ≤ 3
width_most Hundredths = omega arith
width_most Seconds = omega arith
width_most Minutes = omega arith
width_most Hours = omega arith
width_most Day = omega arith
width_most Month = omega arith
width_most MonthName = omega arith
width_most Century = omega arith
width_most Year = omega arith
width_most DayOfYear = omega arith
width_most WeekdayName = omega arith

shown_rest : (m : Moment) (field : Field) (rest : List ℕ) → length (shown field m ++ rest) ≡ width field + length rest
shown_rest m field rest = omega (arith, length-append (shown field m) rest, shown_length field m)

-- a string's length says nothing of its moment
pub same_length : (m m' : Moment) (layout : Layout) → length (string m layout) ≡ length (string m' layout)
same_length m m' ended = refl
same_length m m' (copies c rest) = ap suc (same_length m m' rest)
same_length m m' (shows field rest) =
    omega (arith, shown_rest m field (string m rest), shown_rest m' field (string m' rest), same_length m m' rest)
same_length m m' (bad_field_at at) = refl

-- a string is no longer than what is left of its format
module _ (m : Moment) (format : List ℕ) where
  piece_short : (p : Piece) (at : ℕ) (rest : ℕ → Layout) → span p ≤ length format - at
      → ((next : ℕ) → next ≤ length format → next + length (string m (rest next)) ≤ length format)
      → at ≤ length format → at + length (string m (laid_out p at rest)) ≤ length format
  piece_short End at rest s short h = omega arith
  piece_short (Copied c) at rest s short h = omega (arith, short (at + 1) (omega arith))
  piece_short Percent at rest s short h = omega (arith, short (at + 2) (omega arith))
  piece_short (Shown field) at rest s short h =
      omega (arith, shown_rest m field (string m (rest (at + 3))), width_most field, short (at + 3) (omega arith))
  piece_short Bad at rest s short h = omega arith

pub string_short : (m : Moment) (fuel : ℕ) (format : List ℕ) (at : ℕ) → at ≤ length format
    → at + length (string m (layout_from fuel format at)) ≤ length format
unfolding layout_from
string_short m zero format at h = omega arith
string_short m (suc fuel) format at h =
    piece_short m format (piece_at format at) at (layout_from fuel format) (piece_span format at) (string_short m fuel format) h
