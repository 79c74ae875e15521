-- The levels and the operand meet their contracts: each level reads operands of the next tighter one, and a bracket's operand the
-- loosest again, one level deeper.
use mathlib.Core.Path.{refl, sym, ap, ◌∙◌}
use Prim.Native.Nat.{◌-◌}
use native.Mathlib.Omega.{arith}
use lib.ListN.{take, drop}
use Rattle.std.specs.Prelude.{Ok, Err}
use Rattle.std.proofs.lemmas.Result.{err_from_is_err_and}
use Rattle.variables.specs.Names.{names_of}
use Rattle.tokens.specs.declared.Token.TheVariants.{Number, FaultyNumber, Name}
use Rattle.parts.specs.inner.Steps.{refused_at, up_to_by}
use Rattle.expressions.specs.Trees.{faulty}
use Rattle.expressions.proofs.Chains.{begins, ends, fails_at_first, fails, goes_on, shortens}
use Rattle.expressions.proofs.Operands.{starts_with, no_start, name_stands, misplaced, operator_too_deep, operator_covers, bracket_too_deep, bracket_covers}
use Rattle.expressions.proofs.LeafLaws.{number_read, name_read}
use Rattle.expressions.proofs.levels.+conjunction_disjunction_operand_relation_sum_term.Goals as goal

pub operand-slice_bounds-name-count : goal.operand-slice_bounds-name-count
operand-slice_bounds-name-count t c = omega (arith, name_stands _ _ _ c.token_at-first.ensures c.in-Name.is)

pub operand-slice_bounds-name-start : goal.operand-slice_bounds-name-start
operand-slice_bounds-name-start t c = omega (arith, name_stands _ _ _ c.token_at-first.ensures c.in-Name.is)

pub operand-slice_bounds-name-end : goal.operand-slice_bounds-name-end
operand-slice_bounds-name-end t c = omega (arith, name_stands _ _ _ c.token_at-first.ensures c.in-Name.is)

pub operand-returns-then-not-stands_alone : goal.operand-returns-then-not-stands_alone
operand-returns-then-not-stands_alone t c =
    misplaced _ _ _ _ _ _ c.token_at-first.ensures _ c.in-Operator.is _ (sym c.stands_alone.ensures ∙ c.if-not-stands_alone.true) (ap Err c.bad.ensures)

pub operand-returns-then-levels-eq0 : goal.operand-returns-then-levels-eq0
operand-returns-then-levels-eq0 t c =
    ap Err c.too_deep.ensures ∙ operator_too_deep _ _ _ _ _ _ c.token_at-first.ensures _ c.in-Operator.is (sym c.stands_alone.ensures ∙ c.if-not-stands_alone.false) c.if-levels-eq0.true

pub operand-returns-then-levels-eq0-2 : goal.operand-returns-then-levels-eq0-2
operand-returns-then-levels-eq0-2 t c =
    ap Err c.too_deep-then-levels-eq0-2.ensures ∙ bracket_too_deep _ _ _ _ _ _ c.token_at-first.ensures c.in-Open.is c.if-levels-eq0-2.true

pub operand-returns-in-Number : goal.operand-returns-in-Number
operand-returns-in-Number t c =
    let a = c.args in
    starts_with _ _ _ _ _ _ c.token_at-first.ensures (Number _) _ _ c.in-Number.is refl
    (ap Ok c.number.ensures ∙ number_read (names_of a.source.now.tables.farm.now a.source.now.tables.house.now) c.in-Number.pattern c.token_at-first.result.next a.account)

pub operand-returns-in-FaultyNumber : goal.operand-returns-in-FaultyNumber
operand-returns-in-FaultyNumber t c =
    starts_with _ _ _ _ _ _ c.token_at-first.ensures (FaultyNumber _ _) (faulty _ _) _ c.in-FaultyNumber.is refl
    (ap Err (c.refused.ensures ∙ ap (λ why. refused_at why c.in-FaultyNumber.digit) c.from.ensures))

pub operand-returns-in-Name : goal.operand-returns-in-Name
operand-returns-in-Name t c =
    let a = c.args in
    let l = c.token_at-first.result in
    starts_with _ _ _ _ _ _ c.token_at-first.ensures Name _ _ c.in-Name.is refl
    (ap Ok c.named.ensures ∙ name_read l.place l.next a.source.now.tables.farm.now a.source.now.tables.house.now a.source.now.keys.now (take (l.next - l.place) (drop l.place a.source.now.text.now)) a.account a.source.now.own)

pub operand-returns-in_err-inner-in-Operator : goal.operand-returns-in_err-inner-in-Operator
operand-returns-in_err-inner-in-Operator t c =
    let p = err_from_is_err_and c.from_residual.result c.from_residual.ensures.1 in
    p.1 ∙ ap Err p.2 ∙ operator_covers _ _ _ _ _ _ c.token_at-first.ensures _ c.in-Operator.is _ _ (sym c.stands_alone.ensures ∙ c.if-not-stands_alone.false) c.if-levels-eq0.false c.in_err-inner-in-Operator.ensures refl

pub operand-returns-in_ok-inner-in-Operator : goal.operand-returns-in_ok-inner-in-Operator
operand-returns-in_ok-inner-in-Operator t c =
    operator_covers _ _ _ _ _ _ c.token_at-first.ensures _ c.in-Operator.is _ _ (sym c.stands_alone.ensures ∙ c.if-not-stands_alone.false) c.if-levels-eq0.false c.in_ok-inner-in-Operator.ensures (ap Ok c.covered.ensures)

pub operand-returns-in_err-inner-in-Open : goal.operand-returns-in_err-inner-in-Open
operand-returns-in_err-inner-in-Open t c =
    let p = err_from_is_err_and c.from_residual-in_err-inner-in-Open.result c.from_residual-in_err-inner-in-Open.ensures.1 in
    p.1 ∙ ap Err p.2 ∙ bracket_covers _ _ _ _ _ _ c.token_at-first.ensures c.in-Open.is _ _ c.if-levels-eq0-2.false c.in_err-inner-in-Open.ensures refl

pub operand-returns-in_err-end-in-Open : goal.operand-returns-in_err-end-in-Open
operand-returns-in_err-end-in-Open t c =
    let p = err_from_is_err_and c.from_residual-in_err-end-in-Open.result c.from_residual-in_err-end-in-Open.ensures.1 in
    p.1 ∙ ap Err p.2 ∙ bracket_covers _ _ _ _ _ _ c.token_at-first.ensures c.in-Open.is _ _ c.if-levels-eq0-2.false c.in_ok-inner-in-Open.ensures (ap (up_to_by c.in_ok-inner-in-Open.inner) c.in_err-end-in-Open.ensures)

pub operand-returns-in_ok-end-in-Open : goal.operand-returns-in_ok-end-in-Open
operand-returns-in_ok-end-in-Open t c =
    bracket_covers _ _ _ _ _ _ c.token_at-first.ensures c.in-Open.is _ _ c.if-levels-eq0-2.false c.in_ok-inner-in-Open.ensures
    (ap Ok c.moved_to.ensures ∙ ap (up_to_by c.in_ok-inner-in-Open.inner) c.in_ok-end-in-Open.ensures)

pub operand-returns-in-End : goal.operand-returns-in-End
operand-returns-in-End t c = no_start _ _ _ _ _ _ c.token_at-first.ensures c.in-End.is _ (ap Err c.bad-in-End.ensures)

pub term-returns-in_err-lhs : goal.term-returns-in_err-lhs
term-returns-in_err-lhs t c =
    let p = err_from_is_err_and c.from_residual.result c.from_residual.ensures.1 in
    p.1 ∙ ap Err p.2 ∙ fails_at_first _ _ 0 _ _ _ c.in_err-lhs.ensures

pub term-loop-binding-init : goal.term-loop-binding-init
term-loop-binding-init t c = begins _ _ 0 _ _ _ c.in_ok-lhs.ensures

pub term-returns : goal.term-returns
term-returns t c = ends c.loop-binding.invariant c.binding_behind.ensures c.in_default.not-Some

pub term-returns-in_err-rhs : goal.term-returns-in_err-rhs
term-returns-in_err-rhs t c =
    let p = err_from_is_err_and c.from_residual-in_err-rhs.result c.from_residual-in_err-rhs.ensures.1 in
    p.1 ∙ ap Err p.2 ∙ fails c.loop-binding.invariant c.binding_behind.ensures c.in-Some.is c.account.result c.in_err-rhs.ensures

pub term-loop-binding-smaller : goal.term-loop-binding-smaller
term-loop-binding-smaller t c = shortens c.loop-binding.invariant c.binding_behind.ensures c.in-Some.is c.account.result c.in_ok-rhs.ensures c.joined-lhs.ensures

pub term-loop-binding-preserved : goal.term-loop-binding-preserved
term-loop-binding-preserved t c = goes_on c.loop-binding.invariant c.binding_behind.ensures c.in-Some.is c.account.result c.in_ok-rhs.ensures c.joined-lhs.ensures c.account.ensures

pub sum-returns-in_err-lhs : goal.sum-returns-in_err-lhs
sum-returns-in_err-lhs t c =
    let p = err_from_is_err_and c.from_residual.result c.from_residual.ensures.1 in
    p.1 ∙ ap Err p.2 ∙ fails_at_first _ _ 1 _ _ _ c.in_err-lhs.ensures

pub sum-loop-binding-init : goal.sum-loop-binding-init
sum-loop-binding-init t c = begins _ _ 1 _ _ _ c.in_ok-lhs.ensures

pub sum-returns : goal.sum-returns
sum-returns t c = ends c.loop-binding.invariant c.binding_behind.ensures c.in_default.not-Some

pub sum-returns-in_err-rhs : goal.sum-returns-in_err-rhs
sum-returns-in_err-rhs t c =
    let p = err_from_is_err_and c.from_residual-in_err-rhs.result c.from_residual-in_err-rhs.ensures.1 in
    p.1 ∙ ap Err p.2 ∙ fails c.loop-binding.invariant c.binding_behind.ensures c.in-Some.is c.account.result c.in_err-rhs.ensures

pub sum-loop-binding-smaller : goal.sum-loop-binding-smaller
sum-loop-binding-smaller t c = shortens c.loop-binding.invariant c.binding_behind.ensures c.in-Some.is c.account.result c.in_ok-rhs.ensures c.joined-lhs.ensures

pub sum-loop-binding-preserved : goal.sum-loop-binding-preserved
sum-loop-binding-preserved t c = goes_on c.loop-binding.invariant c.binding_behind.ensures c.in-Some.is c.account.result c.in_ok-rhs.ensures c.joined-lhs.ensures c.account.ensures

pub relation-returns-in_err-lhs : goal.relation-returns-in_err-lhs
relation-returns-in_err-lhs t c =
    let p = err_from_is_err_and c.from_residual.result c.from_residual.ensures.1 in
    p.1 ∙ ap Err p.2 ∙ fails_at_first _ _ 2 _ _ _ c.in_err-lhs.ensures

pub relation-loop-binding-init : goal.relation-loop-binding-init
relation-loop-binding-init t c = begins _ _ 2 _ _ _ c.in_ok-lhs.ensures

pub relation-returns : goal.relation-returns
relation-returns t c = ends c.loop-binding.invariant c.binding_behind.ensures c.in_default.not-Some

pub relation-returns-in_err-rhs : goal.relation-returns-in_err-rhs
relation-returns-in_err-rhs t c =
    let p = err_from_is_err_and c.from_residual-in_err-rhs.result c.from_residual-in_err-rhs.ensures.1 in
    p.1 ∙ ap Err p.2 ∙ fails c.loop-binding.invariant c.binding_behind.ensures c.in-Some.is c.account.result c.in_err-rhs.ensures

pub relation-loop-binding-smaller : goal.relation-loop-binding-smaller
relation-loop-binding-smaller t c = shortens c.loop-binding.invariant c.binding_behind.ensures c.in-Some.is c.account.result c.in_ok-rhs.ensures c.joined-lhs.ensures

pub relation-loop-binding-preserved : goal.relation-loop-binding-preserved
relation-loop-binding-preserved t c = goes_on c.loop-binding.invariant c.binding_behind.ensures c.in-Some.is c.account.result c.in_ok-rhs.ensures c.joined-lhs.ensures c.account.ensures

pub conjunction-returns-in_err-lhs : goal.conjunction-returns-in_err-lhs
conjunction-returns-in_err-lhs t c =
    let p = err_from_is_err_and c.from_residual.result c.from_residual.ensures.1 in
    p.1 ∙ ap Err p.2 ∙ fails_at_first _ _ 3 _ _ _ c.in_err-lhs.ensures

pub conjunction-loop-binding-init : goal.conjunction-loop-binding-init
conjunction-loop-binding-init t c = begins _ _ 3 _ _ _ c.in_ok-lhs.ensures

pub conjunction-returns : goal.conjunction-returns
conjunction-returns t c = ends c.loop-binding.invariant c.binding_behind.ensures c.in_default.not-Some

pub conjunction-returns-in_err-rhs : goal.conjunction-returns-in_err-rhs
conjunction-returns-in_err-rhs t c =
    let p = err_from_is_err_and c.from_residual-in_err-rhs.result c.from_residual-in_err-rhs.ensures.1 in
    p.1 ∙ ap Err p.2 ∙ fails c.loop-binding.invariant c.binding_behind.ensures c.in-Some.is c.account.result c.in_err-rhs.ensures

pub conjunction-loop-binding-smaller : goal.conjunction-loop-binding-smaller
conjunction-loop-binding-smaller t c = shortens c.loop-binding.invariant c.binding_behind.ensures c.in-Some.is c.account.result c.in_ok-rhs.ensures c.joined-lhs.ensures

pub conjunction-loop-binding-preserved : goal.conjunction-loop-binding-preserved
conjunction-loop-binding-preserved t c = goes_on c.loop-binding.invariant c.binding_behind.ensures c.in-Some.is c.account.result c.in_ok-rhs.ensures c.joined-lhs.ensures c.account.ensures

pub disjunction-returns-in_err-lhs : goal.disjunction-returns-in_err-lhs
disjunction-returns-in_err-lhs t c =
    let p = err_from_is_err_and c.from_residual.result c.from_residual.ensures.1 in
    p.1 ∙ ap Err p.2 ∙ fails_at_first _ _ 4 _ _ _ c.in_err-lhs.ensures

pub disjunction-loop-binding-init : goal.disjunction-loop-binding-init
disjunction-loop-binding-init t c = begins _ _ 4 _ _ _ c.in_ok-lhs.ensures

pub disjunction-returns : goal.disjunction-returns
disjunction-returns t c = ends c.loop-binding.invariant c.binding_behind.ensures c.in_default.not-Some

pub disjunction-returns-in_err-rhs : goal.disjunction-returns-in_err-rhs
disjunction-returns-in_err-rhs t c =
    let p = err_from_is_err_and c.from_residual-in_err-rhs.result c.from_residual-in_err-rhs.ensures.1 in
    p.1 ∙ ap Err p.2 ∙ fails c.loop-binding.invariant c.binding_behind.ensures c.in-Some.is c.account.result c.in_err-rhs.ensures

pub disjunction-loop-binding-smaller : goal.disjunction-loop-binding-smaller
disjunction-loop-binding-smaller t c = shortens c.loop-binding.invariant c.binding_behind.ensures c.in-Some.is c.account.result c.in_ok-rhs.ensures c.joined-lhs.ensures

pub disjunction-loop-binding-preserved : goal.disjunction-loop-binding-preserved
disjunction-loop-binding-preserved t c = goes_on c.loop-binding.invariant c.binding_behind.ensures c.in-Some.is c.account.result c.in_ok-rhs.ensures c.joined-lhs.ensures c.account.ensures
