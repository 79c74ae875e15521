-- The two shapes of the number that a pattern stands for, and what the language's casts between patterns and numbers give.
use Rattle.std.proofs.Common.{◌≡◌, ℕ, zero, suc, ◌-◌, ◌<◌, ◌≤◌, ltb, ℤ, pos, negsuc, neg_ℤ, sym, refl, ap, ◌∙◌, mod-eq_of_lt, arith, ltb-false, ltb-true, le-ltb, w32, to_z, of_z}
use Rattle.std.proofs.lemmas.Int.{to_z_pos, of_z-to_z}
use lib.Signed.{mag}
use Rattle.paper.proofs.Choice.{either}
use Rattle.arithmetic.specs.Values.{signed, wrapped, difference}

-- what holds of both shapes, each where the pattern has it, holds of the number
pub by_sign {κ} : (P : ℤ → Type κ) (p : ℕ) → (p < 2147483648 → P (pos p)) → (2147483648 ≤ p → P (negsuc (4294967295 - p))) → P (signed p)
unfolding signed
by_sign P p f g = either P (ltb p 2147483648) (λ t. f (ltb-true p 2147483648 t)) (λ t. g (ltb-false p 2147483648 t))

-- a pattern as it is cast, and cast again from what fits
pub cast : (p : ℕ) → p < 4294967296 → to_z w32 p ≡ signed p
cast p fits = by_sign (λ z. to_z w32 p ≡ z) p (λ low. to_z_pos w32 p low) (λ high. rw (le-ltb p 2147483648 high) (ap negsuc (omega arith)))

pub cast_again : (p : ℕ) (z : ℤ) → p < 4294967296 → z ≡ to_z w32 p → to_z w32 (of_z w32 z) ≡ signed p
cast_again p z fits e = ap (λ z. to_z w32 (of_z w32 z)) e ∙ ap (to_z w32) (of_z-to_z w32 p fits) ∙ cast p fits

-- a number that fits as it is cast back
pub cast_back : (z : ℤ) → mag z < 2147483648 → of_z w32 (to_z w32 (of_z w32 z)) ≡ wrapped z
cast_back (pos n) fits = let low : n < 4294967296 = omega arith in of_z-to_z w32 n low ∙ sym (mod-eq_of_lt low)
cast_back (negsuc n) fits =
    let low : n < 4294967296 = omega arith in
    of_z-to_z w32 (4294967296 - suc n) (omega arith) ∙ omega (arith, mod-eq_of_lt low)

-- zero less a pattern is the pattern of the number turned around
pub turned : (n : ℕ) → n < 4294967296 → difference 0 n ≡ wrapped (neg_ℤ (pos n))
unfolding difference
turned zero h = refl
turned (suc n) h = omega arith
