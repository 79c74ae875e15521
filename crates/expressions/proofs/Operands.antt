-- An operand by its first token: the part that the code makes of each is that of the definition.
use mathlib.Core.Bool.{true, false}
use mathlib.Core.List.{List}
use mathlib.Core.Logic.{◌⊎◌, inl, inr}
use mathlib.Core.Path.{◌≡◌, refl, sym, ap, subst, ◌∙◌}
use Prim.Native.Nat.{ℕ, zero, suc, ◌-◌}
use native.Mathlib.Omega.{arith}
use Rattle.paper.specs.declared.faults.Fault.TheVariants.{TooDeep, BadExpression}
use Rattle.paper.proofs.Choice.{hit, skip}
use Rattle.variables.specs.Names.{Meaning}
use Rattle.arithmetic.specs.Operators.{loosest, stands_alone}
use Rattle.tokens.specs.Tokens.{Lexeme, token_at}
use Rattle.expressions.specs.Trees.{Parsed, faulty, covered, Deeper, level_at, tree_up_to, operand_by, deepest, one_deeper, operand_at}
use Rattle.tokens.specs.inner.Steps.{lexeme_of}
use Rattle.std.specs.Prelude.{Result, Err}
use Rattle.paper.specs.declared.refusals.Refusal.TheVariants as Why
use Rattle.paper.specs.declared.refusals.Refused.{Refused}
use Rattle.parts.specs.inner.Steps.{Account, refused_at}
use Rattle.expressions.specs.inner.Steps.{part_of}
use Rattle.arithmetic.specs.declared.operators.Operator.{Operator}
use Rattle.tokens.specs.declared.Lexed.{Lexed}
use Rattle.tokens.specs.declared.Token.{Token}
use Rattle.tokens.specs.declared.Token.TheVariants.{End, Operator as Operates, Name, Open, Close, Strange}
use Rattle.parts.specs.declared.behind.Wanted.TheVariants.{ClosingBracket}
use Rattle.parts.specs.declared.Part.{Part}
use Rattle.tokens.proofs.Places.{Takes, Stands, stands, asked_within}
use Rattle.expressions.proofs.Joins.{covered_result, ended_result, part_covered, part_ended}

-- the place of a name's bytes
pub name_stands : (text : List ℕ) (at : ℕ) (l : Lexed) → lexeme_of l ≡ token_at text at → l.token ≡ Name → Stands text at (lexeme_of l)
name_stands text at l stood e =
    subst (Stands text at) (sym stood)
    (stands text at (asked_within text at (subst Takes (sym e ∙ ap (λ (m : Lexeme). m.token) stood) tt)))

module _ (names : List ℕ → Meaning) (text : List ℕ) (account : Account) (levels at : ℕ) (l : Lexed) (stood : lexeme_of l ≡ token_at text at) where
  -- what may stand over an operand with so many levels more
  abbrev deeper_in : ℕ → Deeper
  deeper_in zero = deepest text
  deeper_in (suc fewer) = one_deeper text (operand_at text fewer)

  by_token : (levels : ℕ) (token : Token) → l.token ≡ token → operand_by text (deeper_in levels) token l.place l.next ≡ operand_at text levels at
  unfolding operand_at
  by_token zero token e =
      ap (λ k. operand_by text (deepest text) k l.place l.next) (sym e)
      ∙ ap (λ (m : Lexeme). operand_by text (deepest text) m.token m.place m.next) stood
  by_token (suc fewer) token e =
      ap (λ k. operand_by text (one_deeper text (operand_at text fewer)) k l.place l.next) (sym e)
      ∙ ap (λ (m : Lexeme). operand_by text (one_deeper text (operand_at text fewer)) m.token m.place m.next) stood

  -- the part of what a token starts is the operand's
  pub starts_with : (token : Token) (parsed : Parsed) (r : Result Part Refused) → l.token ≡ token
      → parsed ≡ operand_by text (deeper_in levels) token l.place l.next → r ≡ part_of names account parsed
      → r ≡ part_of names account (operand_at text levels at)
  starts_with token parsed r e p h = h ∙ ap (part_of names account) (p ∙ by_token levels token e)

  -- what starts no operand
  pub no_start : (l.token ≡ End) ⊎ ((l.token ≡ Close) ⊎ (l.token ≡ Strange)) → (r : Result Part Refused) → r ≡ Err (refused_at Why.BadExpression l.place)
      → r ≡ part_of names account (operand_at text levels at)
  no_start (inl e) r h = starts_with End (faulty BadExpression l.place) r e refl h
  no_start (inr (inl e)) r h = starts_with Close (faulty BadExpression l.place) r e refl h
  no_start (inr (inr e)) r h = starts_with Strange (faulty BadExpression l.place) r e refl h

  module _ (operator : Operator) (e : l.token ≡ Operates operator) where
    -- an operator that stands before no operand alone
    pub misplaced : (r : Result Part Refused) → stands_alone operator ≡ false → r ≡ Err (refused_at Why.BadExpression l.place)
        → r ≡ part_of names account (operand_at text levels at)
    misplaced r n h = starts_with (Operates operator) (faulty BadExpression l.place) r e (skip (stands_alone operator) _ _ n refl) h

    pub operator_too_deep : stands_alone operator ≡ true → levels ≡ 0
        → Err (refused_at Why.TooDeep l.place) ≡ part_of names account (operand_at text levels at)
    operator_too_deep n z =
        starts_with (Operates operator) (faulty TooDeep l.place) _ e
        (skip_to (ap (λ d. (deeper_in d).under operator l.place l.next) (sym z))) refl
      where
        skip_to : faulty TooDeep l.place ≡ (deeper_in levels).under operator l.place l.next
            → faulty TooDeep l.place ≡ operand_by text (deeper_in levels) (Operates operator) l.place l.next
        skip_to h = hit (stands_alone operator) _ _ n h

    pub operator_covers : (inner r : Result Part Refused) → stands_alone operator ≡ true → (levels ≡ 0 → ⊥)
        → inner ≡ part_of names account (operand_at text (levels - 1) l.next) → r ≡ covered_result operator inner
        → r ≡ part_of names account (operand_at text levels at)
    operator_covers inner r n z i h =
        let fewer : levels ≡ suc (levels - 1) = omega arith in
        starts_with (Operates operator) (covered operator (operand_at text (levels - 1) l.next)) r e
        (hit (stands_alone operator) _ _ n (ap (λ d. (deeper_in d).under operator l.place l.next) (sym fewer)))
        (h ∙ ap (covered_result operator) i ∙ part_covered names operator account (operand_at text (levels - 1) l.next))

  module _ (e : l.token ≡ Open) where
    pub bracket_too_deep : levels ≡ 0 → Err (refused_at Why.TooDeep l.place) ≡ part_of names account (operand_at text levels at)
    bracket_too_deep z = starts_with Open (faulty TooDeep l.place) _ e (ap (λ d. (deeper_in d).bracket l.place l.next) (sym z)) refl

    pub bracket_covers : (inner r : Result Part Refused) → (levels ≡ 0 → ⊥)
        → inner ≡ part_of names account (level_at text loosest (operand_at text (levels - 1)) l.next) → r ≡ ended_result text ClosingBracket inner
        → r ≡ part_of names account (operand_at text levels at)
    bracket_covers inner r z i h =
        let fewer : levels ≡ suc (levels - 1) = omega arith in
        starts_with Open (tree_up_to text ClosingBracket (level_at text loosest (operand_at text (levels - 1)) l.next)) r e
        (ap (λ d. (deeper_in d).bracket l.place l.next) (sym fewer))
        (h ∙ ap (ended_result text ClosingBracket) i ∙ part_ended names text ClosingBracket account (level_at text loosest (operand_at text (levels - 1)) l.next))
