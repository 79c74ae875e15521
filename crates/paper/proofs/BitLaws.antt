-- Sets of small numbers: what a set holds when one number more is put in, and that no set of zeros holds one.
use mathlib.Core.Bool.{true, false, ◌||◌}
use mathlib.Core.List.{List}
use mathlib.Core.Path.{◌≡◌, refl, ap, sym, ◌∙◌}
use Prim.Native.Nat.{ℕ, suc, ◌+◌, ◌-◌, ◌*◌, ◌/◌, ◌%◌, ◌^◌, ◌<◌, max}
use native.Mathlib.Decide.{ℕ_discrete, dec_lt}
use native.Mathlib.Nat.{div-eq_of_lt, one-mul, zero-div}
use native.Mathlib.Omega.{arith}
use borrow.Author.Tests.{eq-eqb, ne_eqb}
use lib.Bits.{bit_or, or_shr, or_step, shifted_even}
use lib.Dec.{eqb}
use lib.ListN.{length, get_or, set, replicate, length-replicate, get_or-replicate, get_or-eq_default}
use lib.Pow.{pow-add, pow-lt, shl-shr, shl_exact}
use lib.Seq.{get_or-set_same, get_or-set_other}
use Rattle.paper.specs.inner.Bits.{holds}

-- a bit of two numbers that are joined
joined : (a b bit : ℕ) → bit_or a b / 2 ^ bit % 2 ≡ max (a / 2 ^ bit % 2) (b / 2 ^ bit % 2)
joined a b bit = rw (or_shr a b bit) (omega (arith, or_step (a / 2 ^ bit) (b / 2 ^ bit)))

-- a power of two has its own bit and no other
own_bit : (bit : ℕ) → 2 ^ bit / 2 ^ bit % 2 ≡ 1
own_bit bit = ap (λ n. n / 2 ^ bit % 2) (sym (one-mul (2 ^ bit))) ∙ ap (λ n. n % 2) (shl-shr 1 bit)

other_bit : (a b : ℕ) → (a ≡ b → ⊥) → 2 ^ a / 2 ^ b % 2 ≡ 0
other_bit a b n = go (dec_lt a b) where
  go : Dec (a < b) → 2 ^ a / 2 ^ b % 2 ≡ 0
  go (yes h) = ap (λ x. x % 2) (div-eq_of_lt (pow-lt h))
  go (no h) =
      let more : ℕ = a - b - 1 in
      let sum : a ≡ suc more + b = omega arith in
      ap (λ i. 2 ^ i / 2 ^ b % 2) sum ∙ ap (λ x. x / 2 ^ b % 2) (pow-add 2 (suc more) b) ∙ ap (λ x. x % 2) (shl-shr (2 ^ suc more) b)
      ∙ ap (λ x. x % 2) (sym (one-mul (2 ^ suc more))) ∙ shifted_even 1 more

-- a bit of 32 is one of a word
pub in_word : (bit : ℕ) → bit < 32 → 1 * 2 ^ bit % 4294967296 ≡ 2 ^ bit
in_word bit h = shl_exact {a = 1} 1 bit 32 (omega arith) (omega arith) ∙ one-mul (2 ^ bit)

module _ (words : List ℕ) (number : ℕ) (inside : number / 32 < length words) where
  abbrev word : ℕ
  word = get_or words (number / 32) 0

  abbrev new : ℕ
  new = bit_or word (2 ^ (number % 32))

  abbrev after : List ℕ
  after = set words (number / 32) new

  itself : holds after number ≡ true
  unfolding holds
  itself =
      let bit : ℕ = number % 32 in
      let here : get_or after (number / 32) 0 ≡ new = get_or-set_same words (number / 32) new 0 inside in
      eq-eqb _ 1 (ap (λ w. w / 2 ^ bit % 2) here ∙ omega (arith, joined word (2 ^ bit) bit, own_bit bit))

  another : (other : ℕ) → (other ≡ number → ⊥) → holds after other ≡ holds words other
  unfolding holds
  another other n = ap (λ b. eqb b 1) (go (ℕ_discrete (other / 32) (number / 32))) where
    bit : ℕ
    bit = other % 32

    go : Dec (other / 32 ≡ number / 32) → get_or after (other / 32) 0 / 2 ^ bit % 2 ≡ get_or words (other / 32) 0 / 2 ^ bit % 2
    go (yes q) =
        let here : get_or after (number / 32) 0 ≡ new = get_or-set_same words (number / 32) new 0 inside in
        let none : 2 ^ (number % 32) / 2 ^ bit % 2 ≡ 0 = other_bit (number % 32) bit (λ e. n (omega arith)) in
        let same : word / 2 ^ bit % 2 ≡ get_or words (other / 32) 0 / 2 ^ bit % 2 = ap (λ i. get_or words i 0 / 2 ^ bit % 2) (sym q) in
        ap (λ i. get_or after i 0 / 2 ^ bit % 2) q ∙ ap (λ w. w / 2 ^ bit % 2) here
        ∙ omega (arith, joined word (2 ^ (number % 32)) bit, none, same)
    go (no q) = ap (λ w. w / 2 ^ bit % 2) (get_or-set_other words (number / 32) (other / 32) new 0 q)

  pub inserted : (other : ℕ) → holds after other ≡ (eqb other number || holds words other)
  inserted other = go (ℕ_discrete other number) where
    go : Dec (other ≡ number) → holds after other ≡ (eqb other number || holds words other)
    go (yes q) = rw (q, eq-eqb number number refl) itself
    go (no n) = rw (ne_eqb other number n) (another other n)

pub none_held : (size number : ℕ) → holds (replicate {A = ℕ} size 0) number ≡ false
unfolding holds
none_held size number = rw (word (dec_lt (number / 32) size), zero-div (2 ^ (number % 32))) where
  word : Dec (number / 32 < size) → get_or (replicate {A = ℕ} size 0) (number / 32) 0 ≡ 0
  word (yes h) = get_or-replicate size (number / 32) 0 0 h
  word (no h) = get_or-eq_default (replicate {A = ℕ} size 0) 0 (omega (arith, length-replicate {A = ℕ} size 0))
