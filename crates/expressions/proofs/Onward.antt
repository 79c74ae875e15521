-- A part of an expression that is read goes on behind the place where it was asked for, and ends inside the text.
use mathlib.Core.Bool.{cond, true, false}
use mathlib.Core.List.{List}
use mathlib.Core.Path.{◌≡◌, refl}
use Prim.Native.Nat.{ℕ, zero, suc, ◌<◌, ◌≤◌}
use native.Mathlib.Omega.{arith}
use lib.Dec.{eqb}
use lib.ListN.{length}
use Rattle.paper.specs.declared.faults.Fault.{Fault}
use Rattle.paper.proofs.Choice.{either, clash}
use Rattle.arithmetic.specs.Operators.{level_of, loosest, stands_alone}
use Rattle.tokens.specs.Tokens.{token_at}
use Rattle.parts.specs.Links.{Link, binds, none, link_by, link_at, wants}
use Rattle.expressions.specs.Trees.{Tree, Parsed, tree, faulty, joined, covered, extended, Deeper, operators_from, level_at, tree_up_to, operand_by, deepest, one_deeper, started_in, operand_at}
use Rattle.arithmetic.specs.declared.operators.Operator.{Operator}
use Rattle.tokens.specs.declared.Token.{Token}
use Rattle.tokens.specs.declared.Token.TheVariants.{End, Operator as Operates, Number, FaultyNumber, Name, Open, Close, Strange}
use Rattle.parts.specs.declared.behind.Wanted.{Wanted}
use Rattle.parts.specs.declared.behind.Wanted.TheVariants.{ClosingBracket}
use Rattle.tokens.proofs.Places.{Takes, stands, asked_within}

-- where an operator binds, it is the token that stands there
pub binds_by : (level here behind place next : ℕ) (operator : Operator) (token : Token) → link_by level token here behind ≡ binds operator place next
    → Takes token × (here ≡ place) × (behind ≡ next)
binds_by level here behind place next operator (Operates found) e = bound (eqb (level_of found) level) e
  where
    bound : (b : _) → cond b (binds found here behind) none ≡ binds operator place next → Unit {0} × (here ≡ place) × (behind ≡ next)
    bound true f = (tt, (cc), (cc))
    bound false f = clash (cc)
binds_by level here behind place next operator End e = clash (cc)
binds_by level here behind place next operator (Number value) e = clash (cc)
binds_by level here behind place next operator (FaultyNumber fault digit) e = clash (cc)
binds_by level here behind place next operator Name e = clash (cc)
binds_by level here behind place next operator Open e = clash (cc)
binds_by level here behind place next operator Close e = clash (cc)
binds_by level here behind place next operator Strange e = clash (cc)

module _ (text : List ℕ) where
  pub record Onward (at : ℕ) (parsed : Parsed) : Type 0 where
    pub ends : (t : Tree) (next : ℕ) → parsed ≡ tree t next → (at < next) × (next ≤ length text)

  faulty_onward : (at : ℕ) (fault : Fault) (place : ℕ) → Onward at (faulty fault place)
  faulty_onward at fault place = record { ends = λ t next e. clash (cc) }

  tree_onward : (at : ℕ) (t : Tree) (next : ℕ) → at < next → next ≤ length text → Onward at (tree t next)
  tree_onward at t next forward within = record { ends = λ t' next' e. same t' next' e }
    where
      same : (t' : Tree) (next' : ℕ) → tree t next ≡ tree t' next' → (at < next') × (next' ≤ length text)
      same t' next' e = let s : next ≡ next' = cc in omega arith

  -- a tree of the same places, or the fault, in place of a part
  joined_onward : (at : ℕ) (operator : Operator) (place : ℕ) (lhs : Tree) (parsed : Parsed) → Onward at parsed → Onward at (joined operator place lhs parsed)
  joined_onward at operator place lhs (tree t next) o = let h = o.ends t next refl in tree_onward at _ next h.0 h.1
  joined_onward at operator place lhs (faulty fault p) o = faulty_onward at fault p

  covered_onward : (at : ℕ) (operator : Operator) (parsed : Parsed) → Onward at parsed → Onward at (covered operator parsed)
  covered_onward at operator (tree t next) o = let h = o.ends t next refl in tree_onward at _ next h.0 h.1
  covered_onward at operator (faulty fault p) o = faulty_onward at fault p

  later_onward : (at at' : ℕ) (parsed : Parsed) → at ≤ at' → Onward at' parsed → Onward at parsed
  later_onward at at' parsed h o = record { ends = λ t next e. sooner t next e }
    where
      sooner : (t : Tree) (next : ℕ) → parsed ≡ tree t next → (at < next) × (next ≤ length text)
      sooner t next e = omega (arith, o.ends t next e)

  taken : (at : ℕ) → Takes (token_at text at).token → (at < (token_at text at).next) × ((token_at text at).next ≤ length text)
  taken at t = let s = stands text at (asked_within text at t) in omega (arith, s.starts, s.takes t, s.within)

  pub binds_onward : (level at place next : ℕ) (operator : Operator) → link_at text level at ≡ binds operator place next
      → (at < next) × (next ≤ length text)
  binds_onward level at place next operator e =
      let b = binds_by level _ _ place next operator (token_at text at).token e in
      omega (arith, b.2, taken at b.0)

  module _ (level : ℕ) (below : ℕ → Parsed) (tighter : (at : ℕ) → Onward at (below at)) where
    operators_onward : (more at : ℕ) (parsed : Parsed) → Onward at parsed → Onward at (operators_from text more level below parsed)
    unfolding operators_from
    operators_onward zero at parsed o = o
    operators_onward (suc more) at (faulty fault place) o = o
    operators_onward (suc more) at (tree lhs here) o = extended_onward (link_at text level here) refl (operators_onward more at)
      where
        extended_onward : (b : Link) → link_at text level here ≡ b
            → ((parsed : Parsed) → Onward at parsed → Onward at (operators_from text more level below parsed))
            → Onward at (extended b lhs here below (operators_from text more level below))
        extended_onward none e rest = o
        extended_onward (binds operator place next) e rest =
            let h = o.ends lhs here refl in
            let b = binds_onward level here place next operator e in
            rest (joined operator place lhs (below next))
            (joined_onward at operator place lhs (below next) (later_onward at next (below next) (omega arith) (tighter next)))

  pub level_onward : (level : ℕ) (operand : ℕ → Parsed) → ((at : ℕ) → Onward at (operand at)) → (at : ℕ) → Onward at (level_at text level operand at)
  level_onward zero operand o at = o at
  level_onward (suc tighter) operand o at =
      operators_onward (suc tighter) (level_at text tighter operand) (level_onward tighter operand o) (suc (length text)) at _ (level_onward tighter operand o at)

  up_to_onward : (wanted : Wanted) (at : ℕ) (parsed : Parsed) → Onward at parsed → Onward at (tree_up_to text wanted parsed)
  up_to_onward wanted at (faulty fault place) o = o
  up_to_onward wanted at (tree inner here) o =
      let l = token_at text here in
      let h = o.ends inner here refl in
      let s = stands text here h.1 in
      either (Onward at) (wants wanted l.token) (λ _. tree_onward at inner l.next (omega (arith, h, s.starts, s.reaches)) s.within) (λ _. faulty_onward at _ l.place)

  -- what a unary operator or a bracket covers goes on behind the place where it starts
  record Covers (deeper : Deeper) : Type 0 where
    under : (operator : Operator) (place next : ℕ) → Onward next (deeper.under operator place next)
    bracket : (place next : ℕ) → Onward next (deeper.bracket place next)

  operand_by_lem : (deeper : Deeper) → Covers deeper → (at place' next' : ℕ) (token : Token)
      → (Takes token → (at < next') × (next' ≤ length text)) → Onward at (operand_by text deeper token place' next')
  operand_by_lem deeper d at place' next' (Number value) s = let h = s tt in tree_onward at _ next' h.0 h.1
  operand_by_lem deeper d at place' next' (FaultyNumber fault digit) s = faulty_onward at fault digit
  operand_by_lem deeper d at place' next' Name s = let h = s tt in tree_onward at _ next' h.0 h.1
  operand_by_lem deeper d at place' next' (Operates operator) s =
      either (Onward at) (stands_alone operator) (λ _. later_onward at next' _ (omega (arith, s tt)) (d.under operator place' next')) (λ _. faulty_onward at _ place')
  operand_by_lem deeper d at place' next' Open s = later_onward at next' _ (omega (arith, s tt)) (d.bracket place' next')
  operand_by_lem deeper d at place' next' End s = faulty_onward at _ place'
  operand_by_lem deeper d at place' next' Close s = faulty_onward at _ place'
  operand_by_lem deeper d at place' next' Strange s = faulty_onward at _ place'

  started_onward : (deeper : Deeper) → Covers deeper → (at : ℕ) → Onward at (started_in text deeper at)
  started_onward deeper d at =
      let l = token_at text at in
      operand_by_lem deeper d at l.place l.next l.token (taken at)

  pub operand_onward : (levels at : ℕ) → Onward at (operand_at text levels at)
  unfolding operand_at
  operand_onward zero at = started_onward (deepest text) (record { under = λ o p next. faulty_onward next _ p; bracket = λ p next. faulty_onward next _ p }) at
  operand_onward (suc levels) at =
      started_onward (one_deeper text (operand_at text levels))
      (record {
        under = λ o p next. covered_onward next o _ (operand_onward levels next);
        bracket = λ p next. up_to_onward ClosingBracket next _ (level_onward loosest (operand_at text levels) (operand_onward levels) next);
      })
      at
