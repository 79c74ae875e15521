-- Laws of the room that digits take with their spaces, and a string with its minus.
use mathlib.Core.Path.{◌≡◌, refl, ap, sym, ◌∙◌}
use mathlib.Core.Bool.{Bool, true, false, cond, ◌&&◌}
use mathlib.Core.List.{[], ◌∷◌}
use Prim.Native.Nat.{ℕ, zero, suc, ◌+◌, ◌-◌, ◌*◌, ◌/◌, ◌%◌, ◌≤◌}
use native.Mathlib.Omega.{arith}
use lib.Dec.{ltb, eqb}
use lib.ListN.{length, length-append}
use borrow.Author.Tests.{ltb-true, ltb-false, eq-eqb, ne_eqb, eqb-true, eqb-false}
use Rattle.paper.proofs.Choice.{either}
use Rattle.forms.specs.Digits.{gap, digits}
use Rattle.forms.specs.Strings.{radix, minus}
use Rattle.numbers.specs.declared.digits.Figures.{Figures}
use Rattle.numbers.specs.inner.Steps.{spread_of, gap_before, characters_of, string_of}

-- the last k digits stand in groups of three from the right: how many the first group has
abbrev pub group_of : ℕ → ℕ
group_of k = k - 3 * ((k - 1) / 3)

-- a space stands before whole groups: where the group that was counted along is whole
pub gap_by_group : (s : Bool) (k : ℕ) → gap_before s (group_of k) ≡ gap s k
gap_by_group s k = ap (λ t. cond (s && t) (32 ∷ []) []) (go (ltb 0 k) (eqb (k % 3) 0) refl refl)
  where
    go : (p q : Bool) → ltb 0 k ≡ p → eqb (k % 3) 0 ≡ q → eqb (group_of k) 3 ≡ (p && q)
    go true true e f = eq-eqb (group_of k) 3 (omega (arith, ltb-true 0 k e, eqb-true (k % 3) 0 f))
    go true false e f = ne_eqb (group_of k) 3 (λ g. omega (arith, ltb-true 0 k e, eqb-false (k % 3) 0 f))
    go false q e f = ne_eqb (group_of k) 3 (λ g. omega (arith, ltb-false 0 k e))

pub group_next : (k : ℕ) → cond (eqb (group_of k) 3) 1 (group_of k + 1) ≡ group_of (k + 1)
group_next k =
    either (λ g. g ≡ group_of (k + 1)) (eqb (group_of k) 3) (λ e. omega (arith, eqb-true (group_of k) 3 e)) (λ e. omega (arith, eqb-false (group_of k) 3 e))

-- the room for one digit more, with the space behind it
pub spread_suc : (s : Bool) (k : ℕ) → spread_of s (suc k) ≡ suc (length (gap s k) + spread_of s k)
spread_suc false k = omega arith
spread_suc true k = go (ltb 0 k) (eqb (k % 3) 0) refl refl
  where
    go : (p q : Bool) → ltb 0 k ≡ p → eqb (k % 3) 0 ≡ q
        → suc k + (suc k - 1) / 3 ≡ suc (length {A = ℕ} (cond (p && q) (32 ∷ []) []) + (k + (k - 1) / 3))
    go true true e f = omega (arith, ltb-true 0 k e, eqb-true (k % 3) 0 f)
    go true false e f = omega (arith, ltb-true 0 k e, eqb-false (k % 3) 0 f)
    go false q e f = omega (arith, ltb-false 0 k e)

pub spread_mono : (s : Bool) {k m : ℕ} → k ≤ m → spread_of s k ≤ spread_of s m
spread_mono false h = h
spread_mono true h = omega arith

pub spread_zero : (s : Bool) → 0 ≡ spread_of s 0
spread_zero false = refl
spread_zero true = refl

pub digits_length : (b : ℕ) (s : Bool) (k n : ℕ) → length (digits b s k n) ≡ spread_of s k
unfolding digits
digits_length b s zero n = spread_zero s
digits_length b s (suc k) n =
    ap suc (length-append (gap s k) (digits b s k n) ∙ ap (λ m. length (gap s k) + m) (digits_length b s k n))
    ∙ sym (spread_suc s k)

-- the string of figures is as long as their minus and their digits with their spaces
pub string_length : (f : Figures) → length (string_of f) ≡ characters_of f
string_length f =
    length-append (minus f.number.negative) (digits (radix f.base) f.spaced f.count f.number.magnitude)
    ∙ ap (λ m. length (minus f.number.negative) + m) (digits_length (radix f.base) f.spaced f.count f.number.magnitude)
