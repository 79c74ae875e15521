-- What inner functions give, over the types that only the code has.
use Rattle.std.specs.Prelude.{cond, ◌&&◌, List, ℕ, eqb, Option, Some, None, Result, Ok, Err}
use Rattle.paper.specs.declared.refusals.Refused.{Refused}
use Rattle.paper.specs.declared.refusals.Refusal.{Refusal}
use Rattle.paper.specs.declared.refusals.Refusal.TheVariants.{ZeroDivisor, BadExpression}
use Rattle.arithmetic.specs.Operators.{level_of, divides}
use Rattle.arithmetic.specs.Values.{unary_value, binary_value}
use Rattle.arithmetic.specs.declared.operators.Operator.{Operator}
use Rattle.tokens.specs.Tokens.{token_at}
use Rattle.parts.specs.Links.{Link, binds, none, wants}
use Rattle.parts.specs.declared.behind.Binding.{Binding}
use Rattle.parts.specs.declared.behind.Wanted.{Wanted}
use Rattle.parts.specs.declared.Part.{Part}
use Rattle.parts.specs.declared.Valued.{Valued}

-- the link that the code's own stands for: each stands for one, and no two for the same
abbrev pub link_of : Option Binding → Link
link_of (Some b) = binds b.operator b.place b.next
link_of None = none

-- an operator behind an operand as the link of a level
abbrev pub link_by_level : ℕ → Option Binding → Link
link_by_level level (Some b) = cond (eqb (level_of b.operator) level) (binds b.operator b.place b.next) none
link_by_level level None = none

abbrev pub Account : Type 0
Account = Result ℕ Refused

abbrev pub Outcome : Type 0
Outcome = Result Valued Refused

abbrev pub refused_at : Refusal → ℕ → Refused
refused_at why place = record { why = why; at = record { 0 = place } }

-- how the evaluation stands behind a part
abbrev pub account_of : Outcome → Account
account_of (Ok valued) = Ok valued.left
account_of (Err refused) = Err refused

-- the same part, up to another place
abbrev pub moved_to : ℕ → Part → Part
moved_to next part = record { outcome = part.outcome; next = next }

abbrev pub covered_outcome : Operator → Outcome → Outcome
covered_outcome operator (Ok valued) = Ok (record { pattern = unary_value operator valued.pattern; left = valued.left })
covered_outcome operator (Err refused) = Err refused

abbrev pub covered_part : Operator → Part → Part
covered_part operator part = record { outcome = covered_outcome operator part.outcome; next = part.next }

unfoldable pub applied_outcome : Operator → ℕ → Valued → Valued → Outcome
applied_outcome operator place lhs rhs =
    cond (divides operator && eqb rhs.pattern 0) (Err (refused_at ZeroDivisor place))
    (Ok (record { pattern = binary_value operator lhs.pattern rhs.pattern; left = rhs.left }))

-- two operands and the operator between them, the right one evaluated behind the left one
abbrev pub joined_outcome : Operator → ℕ → Outcome → Outcome → Outcome
joined_outcome operator place lhs (Err refused) = Err refused
joined_outcome operator place (Err refused) (Ok rhs) = Err refused
joined_outcome operator place (Ok lhs) (Ok rhs) = applied_outcome operator place lhs rhs

abbrev pub joined_part : Operator → ℕ → Part → Part → Part
joined_part operator place lhs rhs = record { outcome = joined_outcome operator place lhs.outcome rhs.outcome; next = rhs.next }

-- the place behind what is wanted, and nothing else, behind a place
abbrev pub end_behind : List ℕ → Wanted → ℕ → Result ℕ Refused
end_behind text wanted at = let behind = token_at text at in cond (wants wanted behind.token) (Ok behind.next) (Err (refused_at BadExpression behind.place))

-- a part up to what is wanted behind it
abbrev pub up_to_by : Part → Result ℕ Refused → Result Part Refused
up_to_by part (Ok end) = Ok (moved_to end part)
up_to_by part (Err refused) = Err refused

abbrev pub part_up_to : List ℕ → Wanted → Part → Result Part Refused
part_up_to text wanted part = up_to_by part (end_behind text wanted part.next)
