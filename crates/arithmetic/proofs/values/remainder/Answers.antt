-- `remainder` meets its contract: zero and -1 apart, it is the remainder of the numbers.
use Rattle.std.proofs.Common.{◌≡◌, rules, ℕ, suc, ◌<◌, ◌%◌, SFits, refl, ℤ, pos, negsuc, ap, ap₂, ◌∙◌, arith, w32, to_z, of_z, lt_of_le_of_lt}
use native.Mathlib.Nat.{mod-zero}
use lib.Signed.{rem_z, mag_rem}
use Rattle.arithmetic.specs.Values.{signed, wrapped, remainder}
use Rattle.arithmetic.proofs.Signs.{by_sign, cast_again, cast_back}
use Rattle.arithmetic.proofs.values.remainder.Goals as goal

over_zero : (lhs : ℕ) → lhs < 4294967296 → lhs ≡ wrapped (rem_z (signed lhs) (pos 0))
over_zero lhs fits =
    by_sign (λ z. lhs ≡ wrapped (rem_z z (pos 0))) lhs (λ low. rw mod-zero (omega arith)) (λ high. rw mod-zero (omega arith))

over_ones : (z : ℤ) → 0 ≡ wrapped (rem_z z (negsuc 0))
over_ones (pos a) = let none : a % 1 ≡ 0 = omega arith in rw none refl
over_ones (negsuc a) = let none : suc a % 1 ≡ 0 = omega arith in rw none refl

pub returns-in-0 : goal.returns-in-0
unfolding remainder signed
returns-in-0 c = rw c.in-0.is (over_zero c.args.lhs (omega arith))

pub returns-in-4294967295 : goal.returns-in-4294967295
unfolding remainder signed
returns-in-4294967295 c = rw c.in-4294967295.is (over_ones (signed c.args.lhs))

pub returns-in_default : goal.returns-in_default
unfolding remainder
returns-in_default c =
    let a = c.args in
    let lhs = to_z w32 (of_z w32 c.cast_signed.result) in
    let rhs = to_z w32 (of_z w32 c.cast_signed-in_default.result) in
    let f : SFits w32 lhs = search rules in
    c.cast_unsigned.ensures ∙ cast_back (rem_z lhs rhs) (lt_of_le_of_lt (mag_rem lhs rhs) f.sfits)
    ∙ ap wrapped (ap₂ rem_z (cast_again a.lhs _ (omega arith) c.cast_signed.ensures) (cast_again a.rhs _ (omega arith) c.cast_signed-in_default.ensures))
