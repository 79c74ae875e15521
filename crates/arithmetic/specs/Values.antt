-- Values: signed 32-bit numbers as their patterns, and what each operator makes of them.
use Rattle.std.specs.Prelude.{ℕ, ◌+◌, ◌-◌, ◌*◌, ◌/◌, ◌%◌, ◌^◌, Bool, cond, not, ℤ, pos, negsuc, ◌==◌, bit_and, bit_or, bit_xor, int_div, int_le, int_lt, int_rem, nat_lt}
use Rattle.std.specs.Int.Signed.{shr_z}
use Rattle.arithmetic.specs.declared.operators.Operator.{Operator}
use Rattle.arithmetic.specs.declared.operators.Operator.TheVariants.{Not, Product, Sum, Relation, And, Either}
use Rattle.arithmetic.specs.declared.operators.Product.TheVariants.{Times, Over, Mod}
use Rattle.arithmetic.specs.declared.operators.Sum.TheVariants.{Plus, Minus}
use Rattle.arithmetic.specs.declared.operators.Relation.{Relation as Related}
use Rattle.arithmetic.specs.declared.operators.Relation.TheVariants.{Equal, Unequal, Less, Greater, AtMost, AtLeast, ShiftLeft, ShiftRight, ShiftRightUnsigned}
use Rattle.arithmetic.specs.declared.operators.Either.TheVariants.{Or, Eor}

-- the number that a pattern stands for, in two's complement
unfoldable pub signed : ℕ → ℤ
signed pattern = cond (nat_lt pattern 2147483648) (pos pattern) (negsuc (4294967295 - pattern))

-- the pattern of a number, modulo 2 to the 32
abbrev pub wrapped : ℤ → ℕ
wrapped (pos n) = n % 4294967296
wrapped (negsuc n) = 4294967295 - n % 4294967296

-- sums, differences and products are taken modulo 2 to the 32
unfoldable pub sum : ℕ → ℕ → ℕ
sum lhs rhs = (lhs + rhs) % 4294967296

unfoldable pub difference : ℕ → ℕ → ℕ
difference lhs rhs = (lhs + (4294967296 - rhs)) % 4294967296

unfoldable pub product : ℕ → ℕ → ℕ
product lhs rhs = lhs * rhs % 4294967296

-- division drops the fraction toward zero; the lowest number over -1 gives itself
unfoldable pub quotient : ℕ → ℕ → ℕ
quotient lhs rhs = wrapped (int_div (signed lhs) (signed rhs))

-- MOD takes the sign of the left side
unfoldable pub remainder : ℕ → ℕ → ℕ
remainder lhs rhs = wrapped (int_rem (signed lhs) (signed rhs))

-- comparisons are signed and give -1 or 0
abbrev pub truth : Bool → ℕ
truth holds = cond holds 4294967295 0

unfoldable pub less : ℕ → ℕ → Bool
less lhs rhs = int_lt (signed lhs) (signed rhs)

unfoldable pub at_most : ℕ → ℕ → Bool
at_most lhs rhs = int_le (signed lhs) (signed rhs)

-- shift amounts are unsigned; 32 or more gives 0, for >> of a negative -1
unfoldable pub shifted_left : ℕ → ℕ → ℕ
shifted_left v by = cond (nat_lt by 32) (v * 2 ^ by % 4294967296) 0

unfoldable pub shifted_right : ℕ → ℕ → ℕ
shifted_right v by = cond (nat_lt by 32) (wrapped (shr_z (signed v) (2 ^ by))) (truth (int_lt (signed v) (pos 0)))

unfoldable pub shifted_right_unsigned : ℕ → ℕ → ℕ
shifted_right_unsigned v by = cond (nat_lt by 32) (v / 2 ^ by) 0

abbrev pub related : Related → ℕ → ℕ → ℕ
related Equal lhs rhs = truth (lhs == rhs)
related Unequal lhs rhs = truth (not (lhs == rhs))
related Less lhs rhs = truth (less lhs rhs)
related Greater lhs rhs = truth (less rhs lhs)
related AtMost lhs rhs = truth (at_most lhs rhs)
related AtLeast lhs rhs = truth (at_most rhs lhs)
related ShiftLeft lhs rhs = shifted_left lhs rhs
related ShiftRight lhs rhs = shifted_right lhs rhs
related ShiftRightUnsigned lhs rhs = shifted_right_unsigned lhs rhs

-- NOT, AND, OR and EOR work bit by bit. NOT stands between no operands
abbrev pub binary_value : Operator → ℕ → ℕ → ℕ
binary_value (Product Times) lhs rhs = product lhs rhs
binary_value (Product Over) lhs rhs = quotient lhs rhs
binary_value (Product Mod) lhs rhs = remainder lhs rhs
binary_value (Sum Plus) lhs rhs = sum lhs rhs
binary_value (Sum Minus) lhs rhs = difference lhs rhs
binary_value (Relation relation) lhs rhs = related relation lhs rhs
binary_value And lhs rhs = bit_and lhs rhs
binary_value (Either Or) lhs rhs = bit_or lhs rhs
binary_value (Either Eor) lhs rhs = bit_xor lhs rhs
binary_value Not lhs rhs = 0

-- before one operand: NOT turns every bit, unary minus is 0 less the value, unary plus the value; no other operator stands there
abbrev pub unary_value : Operator → ℕ → ℕ
unary_value Not v = bit_xor v 4294967295
unary_value (Sum Minus) v = difference 0 v
unary_value (Sum Plus) v = v
unary_value (Product p) v = v
unary_value (Relation r) v = v
unary_value And v = v
unary_value (Either e) v = v
