-- What inner functions give, over the types that only the code has.
use Rattle.std.specs.Prelude.{List, ℕ, Result, Ok, Err}
use Rattle.paper.specs.Refusals.{refusal_of, refusal_by}
use Rattle.paper.specs.Traces.{Run, finished, refused, run, ended}
use Rattle.paper.specs.declared.refusals.Refused.{Refused}
use Rattle.variables.specs.Names.{Meaning}
use Rattle.parts.specs.inner.Steps.{Account, Outcome, refused_at}
use Rattle.parts.specs.declared.Part.{Part}
use Rattle.expressions.specs.Trees.{Tree, Parsed, tree, faulty}
use Rattle.expressions.specs.Evaluations.{tree_value, steps}

-- what a run evaluated
abbrev pub outcome_by : Run → ℕ → Outcome
outcome_by (finished end left) value = Ok (record { pattern = value; left = left })
outcome_by (refused number place) value = Err (refused_at (refusal_of number) place)

-- what a tree is evaluated to, where no evaluation before it was refused
abbrev pub outcome_of : (List ℕ → Meaning) → Account → Tree → Outcome
outcome_of names (Ok left) t = outcome_by (run (steps names t (ended 0)) left) (tree_value names t)
outcome_of names (Err refusal) t = Err refusal

-- a part that was read, or the refusal of its syntax
abbrev pub part_of : (List ℕ → Meaning) → Account → Parsed → Result Part Refused
part_of names account (faulty fault place) = Err (refused_at (refusal_by fault) place)
part_of names account (tree inner next) = Ok (record { outcome = outcome_of names account inner; next = next })
