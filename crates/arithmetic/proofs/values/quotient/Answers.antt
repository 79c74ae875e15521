-- `quotient` meets its contract: zero and -1 apart, the quotient of the numbers fits.
use Rattle.std.proofs.Common.{◌≡◌, rules, ℕ, ◌<◌, ℤ, pos, negsuc, ap, ap₂, ◌∙◌, arith, div-one, w32, SFits, to_z, of_z}
use native.Mathlib.Nat.{div-zero}
use lib.Signed.{quot_z}
use Rattle.arithmetic.specs.Values.{signed, wrapped, difference, quotient}
use Rattle.arithmetic.proofs.Signs.{by_sign, cast_again, cast_back, turned}
use Rattle.arithmetic.proofs.values.quotient.Goals as goal

over_zero : (z : ℤ) → 0 ≡ wrapped (quot_z z (pos 0))
over_zero (pos a) = rw div-zero
over_zero (negsuc a) = rw div-zero

pub returns-in-0 : goal.returns-in-0
unfolding quotient signed
returns-in-0 c = rw c.in-0.is (over_zero (signed c.args.lhs))

-- over -1 the number is turned around
over_ones : (lhs : ℕ) → lhs < 4294967296 → difference 0 lhs ≡ wrapped (quot_z (signed lhs) (negsuc 0))
unfolding difference
over_ones lhs fits = by_sign (λ z. difference 0 lhs ≡ wrapped (quot_z z (negsuc 0))) lhs (λ low. rw div-one (turned lhs fits)) (λ high. rw div-one (omega arith))

pub returns-in-4294967295 : goal.returns-in-4294967295
unfolding quotient signed difference
returns-in-4294967295 c =
    let back : c.wrapping_neg.result ≡ difference 0 c.args.lhs = omega (arith, c.wrapping_neg.ensures) in
    rw (back, c.in-4294967295.is) (over_ones c.args.lhs (omega arith))

pub returns-in_default : goal.returns-in_default
unfolding quotient
returns-in_default c =
    let a = c.args in
    let q = quot_z (to_z w32 (of_z w32 c.cast_signed.result)) (to_z w32 (of_z w32 c.cast_signed-in_default.result)) in
    let f : SFits w32 q = search rules in
    c.cast_unsigned.ensures ∙ cast_back q f.sfits
    ∙ ap wrapped (ap₂ quot_z (cast_again a.lhs _ (omega arith) c.cast_signed.ensures) (cast_again a.rhs _ (omega arith) c.cast_signed-in_default.ensures))
