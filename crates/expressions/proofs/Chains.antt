-- The operators of one level from the left: the one law of all levels. `tighter` is the level of the operands.
use mathlib.Core.List.{List}
use mathlib.Core.Path.{◌≡◌, refl, sym, ap, ap₂, subst, ◌∙◌}
use Prim.Native.Nat.{ℕ, zero, suc, ◌+◌, ◌-◌, ◌<◌, ◌≤◌}
use native.Mathlib.Omega.{arith}
use lib.ListN.{length}
use Rattle.std.specs.Prelude.{Option, Some, None, Ok, Err}
use Rattle.paper.specs.declared.faults.Fault.{Fault}
use Rattle.paper.specs.declared.refusals.Refused.{Refused}
use Rattle.paper.proofs.Choice.{clash}
use Rattle.variables.specs.Names.{Meaning}
use Rattle.tokens.specs.Tokens.{token_at}
use Rattle.parts.specs.Links.{binds, none, link_by, link_at}
use Rattle.expressions.specs.Trees.{Tree, Parsed, tree, faulty, binary, joined, extended, operators_from, level_at, operand_at}
use Rattle.parts.specs.inner.Steps.{link_of, Account, account_of, joined_outcome, joined_part}
use Rattle.expressions.specs.inner.Steps.{outcome_of, part_of}
use Rattle.arithmetic.specs.declared.operators.Operator.{Operator}
use Rattle.parts.specs.declared.behind.Binding.{Binding}
use Rattle.parts.specs.declared.Part.{Part}
use Rattle.tokens.proofs.Places.{past_end}
use Rattle.expressions.proofs.Onward.{Onward, binds_onward, level_onward, operand_onward}
use Rattle.expressions.proofs.Joins.{outcome_joined}

-- a part that was read is a tree's
record Read (names : List ℕ → Meaning) (account : Account) (parsed : Parsed) (part : Part) : Type 0 where
  lhs : Tree
  parsed_so : parsed ≡ tree lhs part.next
  is : part.outcome ≡ outcome_of names account lhs

read_so : (names : List ℕ → Meaning) (account : Account) (parsed : Parsed) (part : Part) → Ok part ≡ part_of names account parsed → Read names account parsed part
read_so names account (tree t next) part e =
    let ends : part.next ≡ next = cc in
    let is : part.outcome ≡ outcome_of names account t = cc in
    record { lhs = t; parsed_so = ap (tree t) (sym ends); is = is }
read_so names account (faulty fault place) part e = clash (cc)

no_binding : (operator : Operator) (place next : ℕ) → none ≡ binds operator place next → ⊥
no_binding operator place next e = clash (cc)

module _ (names : List ℕ → Meaning) (text : List ℕ) (tighter levels : ℕ) where
  abbrev below : ℕ → Parsed
  below = level_at text tighter (operand_at text levels)

  abbrev on_from : ℕ → Parsed → Parsed
  on_from more = operators_from text more (suc tighter) below

  below_onward : (at : ℕ) → Onward text at (below at)
  below_onward = level_onward text tighter (operand_at text levels) (operand_onward text levels)

  -- the part so far is a tree's, from which the level goes on
  pub record Chain (account : Account) (at : ℕ) (part : Part) : Type 0 where
    pub more : ℕ
    pub lhs : Tree
    pub is : part.outcome ≡ outcome_of names account lhs
    pub leads : level_at text (suc tighter) (operand_at text levels) at ≡ on_from more (tree lhs part.next)
    pub enough : length text < more + part.next

  begun : (account : Account) (at : ℕ) (part : Part) → Read names account (below at) part → Chain account at part
  begun account at part r =
      record { more = suc (length text); lhs = r.lhs; is = r.is; leads = ap (on_from (suc (length text))) r.parsed_so; enough = omega arith }

  done : (more : ℕ) (lhs : Tree) (here : ℕ) → none ≡ link_at text (suc tighter) here → on_from more (tree lhs here) ≡ tree lhs here
  unfolding operators_from
  done zero lhs here e = refl
  done (suc more) lhs here e = ap (λ b. extended b lhs here below (on_from more)) (sym e)

  -- past the end no operator binds
  none_past : (here place next : ℕ) (operator : Operator) → length text ≤ here → binds operator place next ≡ link_at text (suc tighter) here → ⊥
  none_past here place next operator h e =
      no_binding operator place next
      (sym (ap (λ t. link_by (suc tighter) t (token_at text here).place (token_at text here).next) (past_end text here h)) ∙ sym e)

  -- an operator that binds joins what is read behind it
  record Extended (more : ℕ) (lhs : Tree) (here place next : ℕ) (operator : Operator) : Type 0 where
    fewer : ℕ
    one_less : more ≡ suc fewer
    joins : on_from more (tree lhs here) ≡ on_from fewer (joined operator place lhs (below next))

  extends : (more : ℕ) (lhs : Tree) (here place next : ℕ) (operator : Operator) → length text < more + here
      → binds operator place next ≡ link_at text (suc tighter) here → Extended more lhs here place next operator
  unfolding operators_from
  extends zero lhs here place next operator enough e = absurd (none_past here place next operator (omega arith) e)
  extends (suc more) lhs here place next operator enough e =
      record { fewer = more; one_less = refl; joins = ap (λ b. extended b lhs here below (on_from more)) (sym e) }

  -- a refusal of the syntax behind an operator is that of the whole
  faulted : (fewer : ℕ) (fault : Fault) (place : ℕ) → on_from fewer (faulty fault place) ≡ faulty fault place
  unfolding operators_from
  faulted zero fault place = refl
  faulted (suc fewer) fault place = refl

  first_fails : (account : Account) (more : ℕ) (why : Refused) (p : Parsed) → Err why ≡ part_of names account p → Err why ≡ part_of names account (on_from more p)
  first_fails account more why (faulty fault first) e = e ∙ ap (part_of names account) (sym (faulted more fault first))
  first_fails account more why (tree lhs next) e = clash (cc)

  next_fails : (account behind : Account) (operator : Operator) (place : ℕ) (lhs : Tree) (fewer : ℕ) (why : Refused) (p : Parsed)
      → Err why ≡ part_of names behind p → Err why ≡ part_of names account (on_from fewer (joined operator place lhs p))
  next_fails account behind operator place lhs fewer why (faulty fault first) e = first_fails account fewer why (faulty fault first) e
  next_fails account behind operator place lhs fewer why (tree rhs next) e = clash (cc)

-- no binding stands behind a part where none was found
not_found : (found : Option Binding) → ((b : Binding) → found ≡ Some b → ⊥) → found ≡ None
not_found None n = refl
not_found (Some b) n = absurd (n b refl)

-- how a level's loop goes: its first operand, and what stands behind the part so far
module _ (names : List ℕ → Meaning) (text : List ℕ) (tighter levels : ℕ) (account : Account) (at : ℕ) where
  pub begins : {part : Part} → Ok part ≡ part_of names account (level_at text tighter (operand_at text levels) at) → Chain names text tighter levels account at part
  begins {part} e = begun names text tighter levels account at part (read_so names account (level_at text tighter (operand_at text levels) at) part e)

  -- the first operand is refused, and so is the whole
  pub fails_at_first : {why : Refused} → Err why ≡ part_of names account (level_at text tighter (operand_at text levels) at)
      → Err why ≡ part_of names account (level_at text (suc tighter) (operand_at text levels) at)
  fails_at_first {why} e = first_fails names text tighter levels account (suc (length text)) why (level_at text tighter (operand_at text levels) at) e

module _ {names : List ℕ → Meaning} {text : List ℕ} {tighter levels : ℕ} {account : Account} {at : ℕ} {part : Part}
    (c : Chain names text tighter levels account at part) {found : Option Binding} (l : link_of found ≡ link_at text (suc tighter) part.next) where
  -- nothing of the level behind the part: it is the whole
  pub ends : ((b : Binding) → found ≡ Some b → ⊥) → Ok part ≡ part_of names account (level_at text (suc tighter) (operand_at text levels) at)
  ends n =
      let e = not_found found n in
      ap (λ outcome. Ok (record { outcome = outcome; next = part.next })) c.is
      ∙ ap (part_of names account) (sym (c.leads ∙ done names text tighter levels c.more c.lhs part.next (ap link_of (sym e) ∙ l)))

  -- an operator of the level behind the part, and what is read behind it
  module _ {b : Binding} (e : found ≡ Some b) where
    bound : binds b.operator b.place b.next ≡ link_at text (suc tighter) part.next
    bound = ap link_of (sym e) ∙ l

    step : Extended names text tighter levels c.more c.lhs part.next b.place b.next b.operator
    step = extends names text tighter levels c.more c.lhs part.next b.place b.next b.operator c.enough bound

    -- the operand is refused, and so is the whole
    pub fails : (behind : Account) {why : Refused} → Err why ≡ part_of names behind (level_at text tighter (operand_at text levels) b.next)
        → Err why ≡ part_of names account (level_at text (suc tighter) (operand_at text levels) at)
    fails behind {why} r =
        next_fails names text tighter levels account behind b.operator b.place c.lhs step.fewer why (level_at text tighter (operand_at text levels) b.next) r
        ∙ ap (part_of names account) (sym (c.leads ∙ step.joins))

    -- both operands with the operator are the part so far, and less of the text remains
    module _ (behind : Account) {rhs new : Part} (r : Ok rhs ≡ part_of names behind (level_at text tighter (operand_at text levels) b.next))
        (j : new ≡ joined_part b.operator b.place part rhs) where
      read : Read names behind (level_at text tighter (operand_at text levels) b.next) rhs
      read = read_so names behind (level_at text tighter (operand_at text levels) b.next) rhs r

      forward : (part.next < rhs.next) × (rhs.next ≤ length text)
      forward =
          omega (arith, binds_onward text (suc tighter) part.next b.place b.next b.operator (sym bound), (below_onward names text tighter levels b.next).ends read.lhs rhs.next read.parsed_so)

      pub goes_on : behind ≡ account_of part.outcome → Chain names text tighter levels account at new
      goes_on h =
          subst (Chain names text tighter levels account at) (sym j)
          (record {
            more = step.fewer;
            lhs = binary b.operator b.place c.lhs read.lhs;
            is =
                ap₂ (joined_outcome b.operator b.place) c.is (read.is ∙ ap (λ a. outcome_of names a read.lhs) (h ∙ ap account_of c.is))
                ∙ outcome_joined names b.operator b.place c.lhs read.lhs account;
            leads =
                c.leads ∙ step.joins
                ∙ ap (λ p. operators_from text step.fewer (suc tighter) (level_at text tighter (operand_at text levels)) (joined b.operator b.place c.lhs p)) read.parsed_so;
            enough = omega (arith, c.enough, step.one_less, forward);
          })

      pub shortens : suc (length text) - new.next < suc (length text) - part.next
      shortens = let next : new.next ≡ rhs.next = ap (λ (p : Part). p.next) j in omega (arith, forward, next)
