-- The tree of an expression, by precedence, and where its syntax is refused.
use Rattle.std.specs.Prelude.{cond, List, ℕ, zero, suc, ◌-◌, length, take, drop}
use Rattle.paper.specs.declared.faults.Fault.{Fault}
use Rattle.paper.specs.declared.faults.Fault.TheVariants.{TooDeep, BadExpression}
use Rattle.arithmetic.specs.Operators.{loosest, stands_alone}
use Rattle.arithmetic.specs.declared.operators.Operator.{Operator}
use Rattle.parts.specs.Links.{Link, binds, none, link_at, wants}
use Rattle.parts.specs.declared.behind.Wanted.{Wanted}
use Rattle.parts.specs.declared.behind.Wanted.TheVariants.{ClosingBracket, TextEnd}
use Rattle.tokens.specs.Tokens.{token_at}
use Rattle.tokens.specs.declared.Token.{Token}
use Rattle.tokens.specs.declared.Token.TheVariants.{End, Operator as Operates, Number, FaultyNumber, Name, Open, Close, Strange}

pub data Tree : Type 0 where
  -- a 32-bit pattern
  constant : ℕ → Tree
  -- a name, and its place
  variable : List ℕ → ℕ → Tree
  -- an operator before one operand
  unary : Operator → Tree → Tree
  -- an operator, its place, and the operands that it stands between
  binary : Operator → ℕ → Tree → Tree → Tree

-- a tree with the first place behind it, or the first fault and its place
pub data Parsed : Type 0 where
  tree : Tree → ℕ → Parsed
  faulty : Fault → ℕ → Parsed

-- the left side of an operator and what stands behind it
abbrev pub joined : Operator → ℕ → Tree → Parsed → Parsed
joined operator place lhs (tree rhs next) = tree (binary operator place lhs rhs) next
joined operator place lhs (faulty fault first) = faulty fault first

abbrev pub covered : Operator → Parsed → Parsed
covered operator (tree inner next) = tree (unary operator inner) next
covered operator (faulty fault first) = faulty fault first

-- what a left side becomes where an operator stands behind it, or stays
abbrev pub extended : Link → Tree → ℕ → (ℕ → Parsed) → (Parsed → Parsed) → Parsed
extended none lhs at below rest = tree lhs at
extended (binds operator place next) lhs at below rest = rest (joined operator place lhs (below next))

-- what a unary operator covers, and what a bracket does, one deeper: each with its own place and the first place behind it
pub record Deeper : Type 0 where
  pub under : Operator → ℕ → ℕ → Parsed
  pub bracket : ℕ → ℕ → Parsed

module _ (text : List ℕ) where
  -- operators of one level from the left, their operands one level tighter. The first number is only there to let the definition
  -- end: each operator takes a byte at least
  unfoldable pub operators_from : ℕ → ℕ → (ℕ → Parsed) → Parsed → Parsed
  operators_from zero level below parsed = parsed
  operators_from (suc more) level below (faulty fault place) = faulty fault place
  operators_from (suc more) level below (tree lhs at) = extended (link_at text level at) lhs at below (operators_from more level below)

  -- a part whose operators bind at a level or tighter
  abbrev pub level_at : ℕ → (ℕ → Parsed) → ℕ → Parsed
  level_at zero operand at = operand at
  level_at (suc tighter) operand at = operators_from (suc (length text)) (suc tighter) (level_at tighter operand) (level_at tighter operand at)

  -- what is wanted, and nothing else, behind the part that is read
  abbrev pub tree_up_to : Wanted → Parsed → Parsed
  tree_up_to wanted (faulty fault place) = faulty fault place
  tree_up_to wanted (tree inner at) =
      let behind = token_at text at in
      cond (wants wanted behind.token) (tree inner behind.next) (faulty BadExpression behind.place)

  -- an operand by its first token
  abbrev pub operand_by : Deeper → Token → ℕ → ℕ → Parsed
  operand_by deeper (Number value) place next = tree (constant value) next
  operand_by deeper (FaultyNumber fault digit) place next = faulty fault digit
  operand_by deeper Name place next = tree (variable (take (next - place) (drop place text)) place) next
  operand_by deeper (Operates operator) place next = cond (stands_alone operator) (deeper.under operator place next) (faulty BadExpression place)
  operand_by deeper Open place next = deeper.bracket place next
  operand_by deeper End place next = faulty BadExpression place
  operand_by deeper Close place next = faulty BadExpression place
  operand_by deeper Strange place next = faulty BadExpression place

  -- over an operand at the last level no unary operator and no bracket stands
  abbrev pub deepest : Deeper
  deepest = record { under = λ operator place next. faulty TooDeep place; bracket = λ place next. faulty TooDeep place }

  -- a bracketed part is a whole expression again
  abbrev pub one_deeper : (ℕ → Parsed) → Deeper
  one_deeper operand =
      record { under = λ operator place next. covered operator (operand next); bracket = λ place next. tree_up_to ClosingBracket (level_at loosest operand next) }

  abbrev pub started_in : Deeper → ℕ → Parsed
  started_in deeper at = let first = token_at text at in operand_by deeper first.token first.place first.next

  unfoldable pub operand_at : ℕ → ℕ → Parsed
  operand_at zero at = started_in deepest at
  operand_at (suc levels) at = started_in (one_deeper (operand_at levels)) at

  -- a whole expression up to the text's end; at most 16 unary operators and brackets stand over one operand
  unfoldable pub whole_tree : Parsed
  whole_tree = tree_up_to TextEnd (level_at loosest (operand_at 16) 0)
