-- Laws of a line in a buffer, and of a number's digits.
use mathlib.Core.Bool.{false}
use mathlib.Core.Path.{◌≡◌, refl, ap, ap₂, sym, subst, ◌∙◌}
use mathlib.Core.List.{List, [], ◌∷◌, ◌++◌}
use Prim.Native.Nat.{ℕ, zero, suc, ◌+◌, ◌-◌, ◌/◌, ◌%◌, ◌^◌, ◌≤◌, ◌<◌}
use native.Mathlib.Nat.{pow-le-pow_right, pow-zero, pow-suc, div-one, mul_comm, div-div-eq-div-mul, mod-eq_of_lt}
use native.Mathlib.Decide.{dec_lt}
use native.Mathlib.Omega.{arith}
use borrow.Author.Tests.{lt-ltb}
use lib.ListN.{length, take, drop, length-append}
use lib.Seq.{take_at, drop-append-add, drop-drop}
use Rattle.std.specs.Fmt.{decimal as given_decimal}
use Rattle.std.proofs.lemmas.Fmt.{decimal_by_steps}
use Rattle.forms.specs.Digits.{glyph, digits, digit_count}
use Rattle.forms.proofs.Laws.{below_power, enough_least, enough_holds, enough_from}
use Rattle.filter.specs.Lines.{decimal, refused, at, line_end, refusal_line}

-- a number has so many digits: it is below that power of ten, and not below the one before
abbrev IsDigitCount : ℕ → ℕ → Type 0
IsDigitCount n k = (1 ≤ k) × (n < 10 ^ k) × (1 < k → 10 ^ (k - 1) ≤ n)

-- the fewest digits that hold a number are as many as it has
fewest_count : (n k : ℕ) → IsDigitCount n k → k ≡ digit_count 10 n
fewest_count n k (one, high, low) =
    let most = enough_least 10 n n 1 k (omega arith) high one in
    let holds : n < 10 ^ digit_count 10 n = enough_holds 10 n n 1 (omega (arith, below_power 10 (1 + n) (omega arith))) in
    least most holds (dec_lt (digit_count 10 n) k)
  where
    least : digit_count 10 n ≤ k → n < 10 ^ digit_count 10 n → Dec (digit_count 10 n < k) → k ≡ digit_count 10 n
    least most holds (yes p) =
        let power = pow-le-pow_right {n = 10} (omega arith) {i = digit_count 10 n} {j = k - 1} (omega (arith, p)) in
        absurd (omega (arith, low (omega (arith, p, enough_from 10 n n 1)), power))
    least most holds (no p) = omega (arith, most, p)

-- one digit more stands behind those of a tenth
digits_behind : (k n : ℕ) → digits 10 false (suc k) n ≡ digits 10 false k (n / 10) ++ (glyph (n % 10) ∷ [])
unfolding digits
digits_behind zero n = rw (pow-zero, div-one)
digits_behind (suc k) n =
    let front : n / 10 ^ suc k ≡ n / 10 / 10 ^ k = rw pow-suc (ap (λ m. n / m) (mul_comm (10 ^ k) 10) ∙ sym (div-div-eq-div-mul n 10 (10 ^ k))) in
    rw (front, digits_behind k n)

glyph_decimal : (d : ℕ) → d < 10 → glyph d ≡ 48 + d
glyph_decimal d h = rw (lt-ltb d 10 h)

-- a number in decimal, as the library writes it
record Written (n : ℕ) (ds : List ℕ) : Type 0 where
  same : ds ≡ digits 10 false (length ds) n
  count : IsDigitCount n (length ds)

written_one : (n : ℕ) → n < 10 → Written n ((48 + n) ∷ [])
unfolding digits
written_one n h = record {
  same = rw (pow-zero, div-one, mod-eq_of_lt h, glyph_decimal n h);
  count = (omega arith, omega arith, λ more. absurd (omega (arith, more)));
}

written_more : (n : ℕ) (ds : List ℕ) → 10 ≤ n → Written (n / 10) ds → Written n (ds ++ ((48 + n % 10) ∷ []))
written_more n ds h w =
    let k = length ds in
    let long : length (ds ++ ((48 + n % 10) ∷ [])) ≡ suc k = omega (arith, length-append ds ((48 + n % 10) ∷ [])) in
    let one_less : suc k - 1 ≡ k = omega arith in
    let last : glyph (n % 10) ≡ 48 + n % 10 = glyph_decimal (n % 10) (omega arith) in
    let high : n < 10 ^ suc k = rw pow-suc (omega (arith, w.count.1)) in
    record {
      same = ap₂ (λ a b. a ++ (b ∷ [])) w.same (sym last) ∙ sym (digits_behind k n) ∙ ap (λ m. digits 10 false m n) (sym long);
      count = rw long (omega arith, high, λ more. subst (λ m. 10 ^ m ≤ n) (sym one_less) (tenth k w.count));
    }
  where
    tenth : (k : ℕ) → IsDigitCount (n / 10) k → 10 ^ k ≤ n
    tenth zero (one, _, _) = absurd (omega (arith, one))
    tenth (suc zero) c = omega (arith, h)
    tenth (suc (suc k)) (_, _, low) =
        let same : suc (suc k) - 1 ≡ suc k = omega arith in
        let tens : 10 ^ suc k ≤ n / 10 = subst (λ m. 10 ^ m ≤ n / 10) same (low (omega arith)) in
        rw pow-suc (omega (arith, tens))

-- the library's decimal is the definition's
pub written : (n : ℕ) → n < 2 ^ 64 → given_decimal n ≡ decimal n
unfolding decimal
written n h =
    let w = decimal_by_steps Written written_one written_more n h in
    w.same ∙ ap (λ k. digits 10 false k n) (fewest_count n (length (given_decimal n)) w.count)

-- bytes stand in a buffer from a place on and end at the next one; the rest of it is what it was
abbrev pub Put : List ℕ → ℕ → List ℕ → ℕ → List ℕ → Type 0
Put out start given next after = (next ≡ start + length given) × (after ≡ take start out ++ given ++ drop next out)

pub put_same : (out : List ℕ) (start : ℕ) {given same after : List ℕ} {next : ℕ} → given ≡ same → Put out start given next after
    → Put out start same next after
put_same out start {after = after} {next = next} e = subst (λ l. Put out start l next after) e

-- the same at the start of a buffer
abbrev pub Stands : List ℕ → List ℕ → ℕ → List ℕ → Type 0
Stands out line end after = (end ≡ length line) × (after ≡ line ++ drop end out)

put_behind : (out line part : List ℕ) {middle after : List ℕ} {end next : ℕ}
    → Stands out line end middle → Put middle end part next after → Stands out (line ++ part) next after
put_behind out line part {middle} {after} {end} {next} (ends, text) (goes_on, laid) =
    let old : List ℕ = drop end out in
    let size : next ≡ length line + length part = goes_on ∙ ap (λ k. k + length part) ends in
    let first : take end middle ≡ line = ap (take end) text ∙ take_at line old end (sym ends) in
    let rest : drop next middle ≡ drop next out =
    ap₂ drop size text
    ∙ drop-append-add line old (length part)
    ∙ drop-drop (length part) end out
    ∙ ap (λ k. drop k out) (sym goes_on) in
    (size ∙ sym (length-append line part), laid ∙ ap₂ (λ f l. f ++ part ++ l) first rest)

-- the five parts of the line of a refusal, one after the other
pub refusal_parts : (number place : ℕ) (out : List ℕ) {o₁ o₂ o₃ o₄ o₅ : List ℕ} {e₁ e₂ e₃ e₄ e₅ : ℕ}
    → Put out 0 refused e₁ o₁ → Put o₁ e₁ (decimal number) e₂ o₂ → Put o₂ e₂ at e₃ o₃
    → Put o₃ e₃ (decimal place) e₄ o₄ → Put o₄ e₄ line_end e₅ o₅ → Stands out (refusal_line number place) e₅ o₅
unfolding refusal_line
refusal_parts number place out p₁ p₂ p₃ p₄ p₅ =
    let s₁ = put_behind out [] refused (refl, refl) p₁ in
    let s₂ = put_behind out refused (decimal number) s₁ p₂ in
    let s₃ = put_behind out (refused ++ decimal number) at s₂ p₃ in
    let s₄ = put_behind out (refused ++ decimal number ++ at) (decimal place) s₃ p₄ in
    put_behind out (refused ++ decimal number ++ at ++ decimal place) line_end s₄ p₅
