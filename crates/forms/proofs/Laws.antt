-- Laws of bases and widths, and of how many digits a number has.
use mathlib.Core.Path.{◌≡◌, refl, ap, sym, subst, ◌∙◌}
use mathlib.Core.Bool.{cond}
use Prim.Native.Nat.{ℕ, zero, suc, ◌+◌, ◌^◌, ◌≤◌, ◌<◌}
use native.Mathlib.Nat.{add-zero, add-suc, suc-add, pow-zero, pow-suc, mul-le-mul, pow-le-pow_right}
use native.Mathlib.Numerals.{add-one}
use native.Mathlib.Decide.{dec_lt}
use native.Mathlib.Omega.{arith}
use lib.Dec.{ltb, leb}
use borrow.Author.Tests.{lt-ltb, le-ltb, lt-leb, ltb-true, ltb-false, leb-true, leb-false}
use Rattle.paper.proofs.Choice.{either}
use Rattle.forms.specs.Digits.{enough}
use Rattle.forms.specs.Strings.{radix, bits}
use Rattle.forms.specs.declared.forms.Base.{Base}
use Rattle.forms.specs.declared.forms.Base.TheVariants.{Two, Ten, Sixteen}
use Rattle.forms.specs.declared.forms.Width.{Width}
use Rattle.forms.specs.declared.forms.Width.TheVariants.{Nibble, Byte, TwoBytes, ThreeBytes, Word}

pub radix_range : (b : Base) → (2 ≤ radix b) × (radix b ≤ 16)
radix_range Two = omega arith
radix_range Ten = omega arith
radix_range Sixteen = omega arith

pub bits_range : (w : Width) → (4 ≤ bits w) × (bits w ≤ 32)
bits_range Nibble = omega arith
bits_range Byte = omega arith
bits_range TwoBytes = omega arith
bits_range ThreeBytes = omega arith
bits_range Word = omega arith

-- as many digits as a number's own value are more than enough for it
pub below_power : (b k : ℕ) → 2 ≤ b → k < b ^ k
below_power b zero h = rw pow-zero (omega arith)
below_power b (suc k) h = rw pow-suc (omega (arith, mul-le-mul (below_power b k h) h))

pub enough_here : (b n more k : ℕ) → n < b ^ k → enough b n more k ≡ k
unfolding enough
enough_here b n zero k h = refl
enough_here b n (suc more) k h = rw (lt-ltb n (b ^ k) h)

enough_later : (b n more k : ℕ) → b ^ k ≤ n → enough b n (suc more) k ≡ enough b n more (suc k)
unfolding enough
enough_later b n more k h = rw (le-ltb n (b ^ k) h)

-- no more digits than any number of them that is enough
pub enough_least : (b n more k m : ℕ) → 0 < b → n < b ^ m → k ≤ m → enough b n more k ≤ m
unfolding enough
enough_least b n zero k m pos high h = h
enough_least b n (suc more) k m pos high h =
    either (λ c. c ≤ m) (ltb n (b ^ k)) (λ _. h)
    (λ e. enough_least b n more (suc k) m pos high (higher (ltb-false n (b ^ k) e) (dec_lt k m)))
  where
    higher : b ^ k ≤ n → Dec (k < m) → k < m
    higher low (yes p) = p
    higher low (no p) = absurd (omega (arith, pow-le-pow_right pos {i = m} {j = k} (omega (arith, p))))

-- the digits that are counted hold the number
pub enough_holds : (b n more k : ℕ) → n < b ^ (k + more) → n < b ^ enough b n more k
unfolding enough
enough_holds b n zero k h = rw add-zero at h
enough_holds b n (suc more) k h =
    either (λ c. n < b ^ c) (ltb n (b ^ k)) (λ e. ltb-true n (b ^ k) e)
    (λ _. enough_holds b n more (suc k) (subst (λ m. n < b ^ m) (add-suc k more ∙ sym (suc-add k more)) h))

pub enough_from : (b n more k : ℕ) → k ≤ enough b n more k
unfolding enough
enough_from b n zero k = omega arith
enough_from b n (suc more) k = either (λ m. k ≤ m) (ltb n (b ^ k)) (λ _. omega arith) (λ _. omega (arith, enough_from b n more (suc k)))

-- one step of the definition's own walk to the number of digits
enough_next : (b n more k : ℕ) → 2 ≤ b → b ^ k ≤ n → k + more ≡ n + 1
    → (m : ℕ) × (k + 1 + m ≡ n + 1) × (enough b n more k ≡ enough b n m (k + 1))
enough_next b n zero k two low e = absurd (omega (arith, below_power b k two))
enough_next b n (suc m) k two low e = (m, omega arith, enough_later b n m k low ∙ ap (enough b n m) (sym (add-one k)))

-- how many of the j powers of b from the k-th on n reaches
abbrev pub reached : ℕ → ℕ → ℕ → ℕ → ℕ
reached b n zero k = 0
reached b n (suc j) k = cond (leb (b ^ k) n) 1 0 + reached b n j (suc k)

reached_none : (b n j k : ℕ) → 0 < b → n < b ^ k → reached b n j k ≡ 0
reached_none b n zero k pos h = refl
reached_none b n (suc j) k pos h =
    let higher : n < b ^ suc k = omega (arith, pow-le-pow_right pos {i = k} {j = suc k} (omega arith)) in
    rw (lt-leb (b ^ k) n h) (omega (arith, reached_none b n j (suc k) pos higher))

-- a number has one digit more for each power that it reaches
pub enough_reached : (b n j more k : ℕ) → 2 ≤ b → n < b ^ (k + j) → k + more ≡ n + 1 → enough b n more k ≡ k + reached b n j k
enough_reached b n zero more k two high e = enough_here b n more k (rw add-zero at high) ∙ sym (add-zero k)
enough_reached b n (suc j) more k two high e =
    either (λ v. enough b n more k ≡ k + (v + reached b n j (suc k))) (leb (b ^ k) n) {x = 1} {y = 0}
    (λ t.
    let next = enough_next b n more k two (leb-true (b ^ k) n t) e in
    let later = enough_reached b n j next.0 (suc k) two (subst (λ m. n < b ^ m) (add-suc k j ∙ sym (suc-add k j)) high) (omega (arith, next.1)) in
    next.2 ∙ ap (enough b n next.0) (add-one k) ∙ later ∙ omega arith)
    (λ t.
    let low : n < b ^ k = leb-false (b ^ k) n t in
    let higher : n < b ^ suc k = omega (arith, pow-le-pow_right {n = b} (omega arith) {i = k} {j = suc k} (omega arith)) in
    enough_here b n more k low ∙ omega (arith, reached_none b n j (suc k) (omega arith) higher))
