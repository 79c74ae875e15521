-- How many digits a form writes: enough for every number of its width, and few, so that every string is short.
use mathlib.Core.Path.{◌≡◌, refl}
use mathlib.Core.Bool.{Bool, true, false, cond, and-eq-true_iff}
use mathlib.Core.List.{[], ◌∷◌}
use Prim.Native.Nat.{ℕ, ◌+◌, ◌-◌, ◌*◌, ◌/◌, ◌^◌, ◌≤◌, ◌<◌}
use native.Mathlib.Nat.{mod-lt, pow-le-pow_left, pow-le-pow_right}
use native.Mathlib.Omega.{arith}
use lib.ListN.{length}
use lib.Pow.{pow_pos}
use borrow.Author.Tests.{leb-true}
use Rattle.paper.proofs.Choice.{either}
use Rattle.forms.specs.Digits.{enough, digit_count}
use Rattle.forms.specs.Strings.{radix, bits, largest, Form, used, negative, magnitude, count, string}
use Rattle.forms.specs.Calls.{decimal}
use Rattle.forms.specs.inner.Steps.{number_in}
use Rattle.forms.specs.declared.forms.Width.{Width}
use Rattle.forms.specs.declared.forms.Width.TheVariants.{Nibble, Byte, TwoBytes, ThreeBytes, Word}
use Rattle.forms.proofs.Laws.{radix_range, bits_range, below_power, enough_from, enough_holds, enough_least}
use Rattle.numbers.specs.inner.Steps.{spread_of}
use Rattle.numbers.proofs.Laws.{string_length}

-- the used bits are below the width's span
pub used_below : (form : Form) (value : ℕ) → used form value < 2 ^ bits form.width
used_below form value = mod-lt value (pow_pos (bits form.width))

pub span_word : (form : Form) → 2 ^ bits form.width ≤ 2 ^ 32
span_word form = pow-le-pow_right {n = 2} (omega arith) (bits_range form.width).1

-- so is what is written of them, with a minus or without
magnitude_below : (form : Form) (value : ℕ) → magnitude form value < 2 ^ bits form.width
magnitude_below form value = go (negative form value) refl
  where
    span : ℕ
    span = 2 ^ bits form.width

    go : (t : Bool) → negative form value ≡ t → cond t (span - used form value) (used form value) < span
    go true e =
        let high = leb-true span (2 * used form value) ((and-eq-true_iff form.signed _).0 e).1 in
        omega (arith, used_below form value)
    go false e = used_below form value

magnitude_word : (form : Form) (value : ℕ) → magnitude form value < 2 ^ 32
magnitude_word form value = omega (arith, magnitude_below form value, span_word form)

count_holds_own : (b n : ℕ) → 2 ≤ b → n < b ^ digit_count b n
count_holds_own b n two = enough_holds b n n 1 (omega (arith, below_power b (1 + n) two))

-- the digits that a form writes are enough for every number below its width's span
pub count_holds : (form : Form) (n : ℕ) → n < 2 ^ bits form.width → n < radix form.base ^ count form n
count_holds form n h =
    let b = radix form.base in
    let two : 2 ≤ b = (radix_range form.base).0 in
    either (λ m. n < b ^ digit_count b m) form.padded
    (λ _. omega (arith, count_holds_own b (largest form.width) two))
    (λ _. count_holds_own b n two)

-- so no form cuts a digit
pub no_digit_cut : (form : Form) (value : ℕ) → magnitude form value < radix form.base ^ count form (magnitude form value)
no_digit_cut form value = count_holds form (magnitude form value) (magnitude_below form value)

pub count_from : (form : Form) (n : ℕ) → 1 ≤ count form n
count_from form n =
    let m = cond form.padded (largest form.width) n in
    enough_from (radix form.base) m m 1

-- a hex digit holds four bits, a binary digit one
pub hex_digits : (w : Width) → bits w / 4 ≡ digit_count 16 (largest w)
unfolding enough
hex_digits Nibble = refl
hex_digits Byte = refl
hex_digits TwoBytes = refl
hex_digits ThreeBytes = refl
hex_digits Word = refl

pub binary_digits : (w : Width) → bits w ≡ digit_count 2 (largest w)
unfolding enough
binary_digits Nibble = refl
binary_digits Byte = refl
binary_digits TwoBytes = refl
binary_digits ThreeBytes = refl
binary_digits Word = refl

-- a 32-bit number has at most 32 digits in any base
count_small : (form : Form) (n : ℕ) → n < 2 ^ 32 → count form n ≤ 32
count_small form n word = either (λ m. digit_count b m ≤ 32) form.padded (λ _. few (largest form.width) (omega (arith, span_word form))) (λ _. few n word)
  where
    b : ℕ
    b = radix form.base

    few : (m : ℕ) → m < 2 ^ 32 → digit_count b m ≤ 32
    few m h =
        let two = (radix_range form.base).0 in
        enough_least b m m 1 32 (omega (arith, two)) (omega (arith, pow-le-pow_left two 32)) (omega arith)

one_long : (wanted : Bool) (x : ℕ) → length (cond wanted (x ∷ []) []) ≤ 1
one_long true x = omega arith
one_long false x = omega arith

spread_short : (s : Bool) (k : ℕ) → k ≤ 32 → spread_of s k ≤ 42
spread_short true k h = omega arith
spread_short false k h = omega arith

characters : (form : Form) (value : ℕ) → length (string form value) ≤ 1 + spread_of form.spaced (count form (magnitude form value))
unfolding string
characters form value =
    omega (
      arith,
      string_length (record { number = number_in form.signed form.width value; base = form.base; count = count form (magnitude form value); spaced = form.spaced }),
      one_long (negative form value) 45,
    )

-- every string of every form is short
pub string_short : (form : Form) (value : ℕ) → length (string form value) ≤ 43
string_short form value =
    let n = magnitude form value in
    omega (arith, characters form value, spread_short form.spaced (count form n) (count_small form n (magnitude_word form value)))

-- a decimal string without spaces: a minus and ten digits at the most
pub decimal_short : (signed terminated : Bool) (w : Width) (value : ℕ) → length (string (decimal signed false terminated w) value) ≤ 11
decimal_short signed terminated w value =
    let form : Form = decimal signed false terminated w in
    let n = magnitude form value in
    omega (
      arith,
      characters form value,
      enough_least 10 n n 1 10 (omega arith) (omega (arith, magnitude_word form value)) (omega arith),
    )
