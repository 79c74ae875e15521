-- The operators: how tightly each binds, which stand before one operand, and which divide.
use Rattle.std.specs.Prelude.{ℕ, Bool, true, false, Option, Some, None}
use Rattle.arithmetic.specs.declared.operators.Level.{Level}
use Rattle.arithmetic.specs.declared.operators.Level.TheVariants as Levels
use Rattle.arithmetic.specs.declared.operators.Operator.{Operator}
use Rattle.arithmetic.specs.declared.operators.Operator.TheVariants.{Not, Product, Sum, Relation, And, Either}
use Rattle.arithmetic.specs.declared.operators.Product.TheVariants.{Times, Over, Mod}

-- between two operands, tightest first: * / MOD; + -; = <> < > <= >= << >> >>>; AND; OR EOR. NOT stands between none
abbrev pub level_of : Operator → ℕ
level_of Not = 0
level_of (Product p) = 1
level_of (Sum s) = 2
level_of (Relation r) = 3
level_of And = 4
level_of (Either e) = 5

-- the levels as the code names them, and the number for an operator that stands at none
abbrev pub level_number : Level → ℕ
level_number Levels.Term = 1
level_number Levels.Sum = 2
level_number Levels.Relation = 3
level_number Levels.Conjunction = 4
level_number Levels.Disjunction = 5

abbrev pub number_of : Option Level → ℕ
number_of (Some level) = level_number level
number_of None = 0

abbrev pub loosest : ℕ
loosest = 5

-- NOT, unary minus and plus
abbrev pub stands_alone : Operator → Bool
stands_alone Not = true
stands_alone (Sum s) = true
stands_alone (Product p) = false
stands_alone (Relation r) = false
stands_alone And = false
stands_alone (Either e) = false

-- those that a right side of zero is refused under
abbrev pub divides : Operator → Bool
divides (Product Over) = true
divides (Product Mod) = true
divides (Product Times) = false
divides Not = false
divides (Sum s) = false
divides (Relation r) = false
divides And = false
divides (Either e) = false
