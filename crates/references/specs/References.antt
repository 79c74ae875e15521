-- What a content stands for: a number, or what a look-up answers, whether that goes through the tables or by some keys and an index.
use Rattle.std.specs.Prelude.{true, cond, List, ℕ, eqb, Result, Ok, Err, Option, Some, None}
use Rattle.paper.specs.Refusals.{too_big, over_code, refusal_number}
use Rattle.paper.specs.declared.refusals.Refused.{Refused}
use Rattle.reader.specs.Reading.{reading, no_limit}
use Rattle.reader.specs.declared.Number.{Number as Read}
use Rattle.variables.specs.Holdings.{Holding, sought_in_both}
use Rattle.variables.specs.inner.Keys.{match_as}
use Rattle.lookups.specs.inner.Through.{sought_through}
use Rattle.records.specs.declared.Variable.{Variable}
use Rattle.records.specs.declared.kinds.Kind.{Kind}
use Rattle.records.specs.declared.kinds.Kind.TheVariants as Kinds
use Rattle.references.specs.declared.Referred.{Referred}
use Rattle.references.specs.declared.Referred.TheVariants.{Number, CodeOver255, TooBig, Unknown, Text, Integer, Macro}

-- what a look-up answers, as a reference
abbrev pub kinded : Kind → Variable → Referred
kinded Kinds.Text v = Text v
kinded Kinds.Integer v = Integer v
kinded Kinds.Macro v = Macro v

abbrev pub matched_as : Option Variable → Referred
matched_as (Some v) = kinded v.kind v
matched_as None = Unknown

-- a value becomes a byte, and over 255 it is refused; too big is refused; any other refusal makes it a name
abbrev pub referred_as : Result Read Refused → Referred → Referred
referred_as (Ok n) named = cond (over_code n.value) CodeOver255 (Number n.value)
referred_as (Err r) named = cond (eqb (refusal_number r.why) too_big) TooBig named

-- a content, where so much is found of it as a name
abbrev pub referred_to : List ℕ → List ℕ → Holding → List ℕ → Referred
referred_to farm house sought name = referred_as (reading name true no_limit) (matched_as (match_as farm house sought))

-- what it stands for in two tables
unfoldable pub referred_in : List ℕ → List ℕ → List ℕ → Referred
referred_in farm house name = referred_to farm house (sought_in_both farm house name) name

-- and by some keys and an index, whatever these are
unfoldable pub referred_by : List ℕ → List ℕ → List ℕ → List ℕ → List ℕ → Referred
referred_by farm house keys index name = referred_to farm house (sought_through farm house keys index name) name
