-- The levels and the operand end: what falls at each call is eight times the levels that may still be entered and the level's own number.
-- A level's loop keeps the part so far as a tree from which the level goes on.
use mathlib.Core.List.{List}
use Prim.Native.Nat.{ℕ, suc, ◌+◌, ◌-◌, ◌*◌}
use lib.ListN.{length}
use Rattle.variables.specs.Names.{names_of}
use Rattle.parts.specs.declared.Part.{Part}
use Rattle.expressions.proofs.Chains.{Chain}
use Rattle.expressions.proofs.levels.+conjunction_disjunction_operand_relation_sum_term.Given as goal

-- what is left of a text behind a part
abbrev pub remaining : List ℕ → Part → ℕ
remaining text part = suc (length text) - part.next

abbrev pub decreases-conjunction : goal.decreases-conjunction
decreases-conjunction l = 8 * l.levels + 4

abbrev pub decreases-disjunction : goal.decreases-disjunction
decreases-disjunction l = 8 * l.levels + 5

abbrev pub decreases-operand : goal.decreases-operand
decreases-operand l = 8 * l.levels + 0

abbrev pub decreases-relation : goal.decreases-relation
decreases-relation l = 8 * l.levels + 3

abbrev pub decreases-sum : goal.decreases-sum
decreases-sum l = 8 * l.levels + 2

abbrev pub decreases-term : goal.decreases-term
decreases-term l = 8 * l.levels + 1

abbrev pub invariant-conjunction-loop-binding : goal.invariant-conjunction-loop-binding
invariant-conjunction-loop-binding l = Chain (names_of l.source.tables.farm.now l.source.tables.house.now) l.source.text.now 3 l.levels l.fn.account l.at l.lhs

abbrev pub decreases-conjunction-loop-binding : goal.decreases-conjunction-loop-binding
decreases-conjunction-loop-binding l = remaining l.source.text.now l.lhs

abbrev pub invariant-disjunction-loop-binding : goal.invariant-disjunction-loop-binding
invariant-disjunction-loop-binding l = Chain (names_of l.source.tables.farm.now l.source.tables.house.now) l.source.text.now 4 l.levels l.fn.account l.at l.lhs

abbrev pub decreases-disjunction-loop-binding : goal.decreases-disjunction-loop-binding
decreases-disjunction-loop-binding l = remaining l.source.text.now l.lhs

abbrev pub invariant-relation-loop-binding : goal.invariant-relation-loop-binding
invariant-relation-loop-binding l = Chain (names_of l.source.tables.farm.now l.source.tables.house.now) l.source.text.now 2 l.levels l.fn.account l.at l.lhs

abbrev pub decreases-relation-loop-binding : goal.decreases-relation-loop-binding
decreases-relation-loop-binding l = remaining l.source.text.now l.lhs

abbrev pub invariant-sum-loop-binding : goal.invariant-sum-loop-binding
invariant-sum-loop-binding l = Chain (names_of l.source.tables.farm.now l.source.tables.house.now) l.source.text.now 1 l.levels l.fn.account l.at l.lhs

abbrev pub decreases-sum-loop-binding : goal.decreases-sum-loop-binding
decreases-sum-loop-binding l = remaining l.source.text.now l.lhs

abbrev pub invariant-term-loop-binding : goal.invariant-term-loop-binding
invariant-term-loop-binding l = Chain (names_of l.source.tables.farm.now l.source.tables.house.now) l.source.text.now 0 l.levels l.fn.account l.at l.lhs

abbrev pub decreases-term-loop-binding : goal.decreases-term-loop-binding
decreases-term-loop-binding l = remaining l.source.text.now l.lhs
