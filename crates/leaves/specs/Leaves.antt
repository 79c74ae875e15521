-- The part that a leaf of an expression makes: a number, or a name that is looked up by some keys.
use Rattle.std.specs.Prelude.{cond, List, ℕ, ◌-◌, eqb, Option, Some, None, Ok, Err}
use Rattle.paper.specs.declared.refusals.Refusal.TheVariants.{UnknownName, NotAnInteger, AllowanceSpent}
use Rattle.records.specs.Kinds.{pattern}
use Rattle.records.specs.declared.Variable.{Variable}
use Rattle.records.specs.declared.kinds.Kind.{Kind}
use Rattle.records.specs.declared.kinds.Kind.TheVariants.{Text, Integer, Macro}
use Rattle.variables.specs.Holdings.{part_of}
use Rattle.variables.specs.inner.Keys.{sought_by, match_as}
use Rattle.parts.specs.inner.Steps.{Account, Outcome, refused_at}
use Rattle.parts.specs.declared.Part.{Part}

-- a number spends nothing; behind a refusal it has no value
abbrev pub number_outcome : ℕ → Account → Outcome
number_outcome pattern (Ok left) = Ok (record { pattern = pattern; left = left })
number_outcome pattern (Err refused) = Err refused

abbrev pub number_part : ℕ → ℕ → Account → Part
number_part pattern next account = record { outcome = number_outcome pattern account; next = next }

-- an integer variable spends one look-up; no other kind is an integer
abbrev pub kind_outcome : Kind → ℕ → ℕ → ℕ → Outcome
kind_outcome Text pattern place left = Err (refused_at NotAnInteger place)
kind_outcome Macro pattern place left = Err (refused_at NotAnInteger place)
kind_outcome Integer pattern place left = cond (eqb left 0) (Err (refused_at AllowanceSpent place)) (Ok (record { pattern = pattern; left = left - 1 }))

-- what a look-up answers
abbrev pub found_outcome : List ℕ → List ℕ → Option Variable → ℕ → ℕ → Outcome
found_outcome farm house None place left = Err (refused_at UnknownName place)
found_outcome farm house (Some v) place left = kind_outcome v.kind (pattern (part_of farm house v)) place left

-- a name by some keys, whatever their lines are; behind a refusal none is looked up any more
abbrev pub looked_up : List ℕ → List ℕ → List ℕ → List ℕ → ℕ → Account → Outcome
looked_up farm house keys name place (Ok left) = found_outcome farm house (match_as farm house (sought_by farm house keys name)) place left
looked_up farm house keys name place (Err refused) = Err refused

abbrev pub named_part : List ℕ → List ℕ → List ℕ → List ℕ → ℕ → ℕ → Account → Part
named_part farm house keys name place next account = record { outcome = looked_up farm house keys name place account; next = next }
