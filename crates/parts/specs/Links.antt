-- What stands behind an operand, and what has to stand behind a part that is whole.
use Rattle.std.specs.Prelude.{Bool, true, false, cond, List, ℕ, eqb}
use Rattle.arithmetic.specs.Operators.{level_of}
use Rattle.arithmetic.specs.declared.operators.Operator.{Operator}
use Rattle.tokens.specs.Tokens.{token_at}
use Rattle.tokens.specs.declared.Token.{Token}
use Rattle.tokens.specs.declared.Token.TheVariants.{End, Operator as Operates, Number, FaultyNumber, Name, Open, Close, Strange}
use Rattle.parts.specs.declared.behind.Wanted.{Wanted}
use Rattle.parts.specs.declared.behind.Wanted.TheVariants.{ClosingBracket, TextEnd}

-- an operator of the level that asks, with its place and the first place behind it, or anything else
pub data Link : Type 0 where
  binds : Operator → ℕ → ℕ → Link
  none : Link

abbrev pub link_by : ℕ → Token → ℕ → ℕ → Link
link_by level (Operates operator) place next = cond (eqb (level_of operator) level) (binds operator place next) none
link_by level End place next = none
link_by level (Number value) place next = none
link_by level (FaultyNumber fault digit) place next = none
link_by level Name place next = none
link_by level Open place next = none
link_by level Close place next = none
link_by level Strange place next = none

-- the operator of a level behind a place
abbrev pub link_at : List ℕ → ℕ → ℕ → Link
link_at text level at = let behind = token_at text at in link_by level behind.token behind.place behind.next

-- the ")" of a bracket, or the text's end
abbrev pub wants : Wanted → Token → Bool
wants ClosingBracket Close = true
wants TextEnd Close = false
wants ClosingBracket End = false
wants TextEnd End = true
wants wanted (Operates operator) = false
wants wanted (Number value) = false
wants wanted (FaultyNumber fault digit) = false
wants wanted Name = false
wants wanted Open = false
wants wanted Strange = false
