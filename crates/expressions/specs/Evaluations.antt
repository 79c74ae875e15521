-- The evaluation of a tree as a trace, over what names mean: what is asked, spent and refused, operands from the left and each operator
-- behind its operands. It knows no allowance.
use Rattle.std.specs.Prelude.{cond, ◌&&◌, List, ℕ, eqb}
use Rattle.paper.specs.Traces.{Trace, ended, faults, asks, spends}
use Rattle.paper.specs.declared.faults.Fault.TheVariants.{UnknownName, ZeroDivisor, NotAnInteger}
use Rattle.variables.specs.Names.{Meaning, unknown, string_of, integer_of, macro_of}
use Rattle.arithmetic.specs.Operators.{divides}
use Rattle.expressions.specs.Trees.{Tree, constant, variable, unary, binary, Parsed, tree, faulty}
use Rattle.arithmetic.specs.Values.{unary_value, binary_value}
use Rattle.arithmetic.specs.declared.operators.Operator.{Operator}

-- an integer variable's pattern; 0 for any other name, which is refused
abbrev pub integer_of_meaning : Meaning → ℕ
integer_of_meaning (integer_of pattern) = pattern
integer_of_meaning (string_of value) = 0
integer_of_meaning (macro_of value) = 0
integer_of_meaning unknown = 0

-- a name must be known, and an integer variable; it spends one look-up
abbrev pub name_steps : Meaning → ℕ → Trace → Trace
name_steps unknown place rest = faults UnknownName place
name_steps (string_of value) place rest = faults NotAnInteger place
name_steps (macro_of value) place rest = faults NotAnInteger place
name_steps (integer_of pattern) place rest = spends place rest

-- a right side of zero is refused under / and MOD
unfoldable pub divided : Operator → ℕ → ℕ → Trace → Trace
divided operator place rhs rest = cond (divides operator && eqb rhs 0) (faults ZeroDivisor place) rest

module _ (names : List ℕ → Meaning) where
  abbrev pub tree_value : Tree → ℕ
  tree_value (constant pattern) = pattern
  tree_value (variable word place) = integer_of_meaning (names word)
  tree_value (unary operator inner) = unary_value operator (tree_value inner)
  tree_value (binary operator place lhs rhs) = binary_value operator (tree_value lhs) (tree_value rhs)

  abbrev pub steps : Tree → Trace → Trace
  steps (constant pattern) rest = rest
  steps (variable word place) rest = asks word (name_steps (names word) place rest)
  steps (unary operator inner) rest = steps inner rest
  steps (binary operator place lhs rhs) rest = steps lhs (steps rhs (divided operator place (tree_value rhs) rest))

  -- a refusal of the syntax comes before every refusal of the evaluation
  abbrev pub evaluation : Parsed → Trace
  evaluation (faulty fault place) = faults fault place
  evaluation (tree whole end) = steps whole (ended end)

  abbrev pub result : Parsed → ℕ
  result (faulty fault place) = 0
  result (tree whole end) = tree_value whole
