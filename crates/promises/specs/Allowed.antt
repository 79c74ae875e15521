-- What each operation's contract allows: an answer, and what a lent buffer holds afterwards.
use Rattle.std.specs.Prelude.{◌≡◌, Bool, List, ℕ, length, Result}
use Rattle.paper.specs.Layings.{Converted, converted_by}
use Rattle.numbers.specs.Conversions.{answer_of, buffer_of}
use Rattle.dates.specs.Conversions.{date_answer, date_buffer}
use Rattle.reader.specs.Reading.{reading}
use Rattle.paper.specs.declared.refusals.Refused.{Refused}
use Rattle.reader.specs.declared.Number.{Number}
use Rattle.paper.specs.declared.refusals.BadTable.{BadTable}
use Rattle.variables.specs.Tables.{checked}
use Rattle.indexes.specs.Indexes.{Given}
use Rattle.indexes.specs.Buildings.{built, index_after}
use Rattle.indexes.specs.declared.building.Built.{Built}
use Rattle.lookups.specs.Lookups.{looked_up, value_part, Found}
use Rattle.gs.specs.Translations.{Translation, translated, out_after}
use Rattle.indexes.specs.declared.building.NotBuilt.{NotBuilt}
use Rattle.expressions.specs.Answers.{evaluated, Evaluated}

-- `convert`
pub record Converts (call value : ℕ) (buf : List ℕ) (r : Converted) (after : List ℕ) : Type 0 where
  pub answer : r ≡ converted_by (answer_of call value (length buf))
  pub buffer : after ≡ buffer_of call value buf

-- `convert_date`
pub record Dates (time format buf : List ℕ) (r : Converted) (after : List ℕ) : Type 0 where
  pub answer : r ≡ converted_by (date_answer time format (length buf))
  pub buffer : after ≡ date_buffer time format buf

-- `read_unsigned`
pub record Reads (text : List ℕ) (whole : Bool) (limit : ℕ) (r : Result Number Refused) : Type 0 where
  pub answer : r ≡ reading text whole limit

-- `check_table`
pub record Checks (table : List ℕ) (r : Result ℕ BadTable) : Type 0 where
  pub answer : r ≡ checked table

-- `build_index`
pub record Builds (table out : List ℕ) (r : Result Built NotBuilt) (after : List ℕ) : Type 0 where
  pub answer : r ≡ built table (length out)
  pub buffer : after ≡ index_after table out

-- `look_up`
pub record LooksUp (farm house : List ℕ) (given : Given) (name : List ℕ) (r : Found) : Type 0 where
  pub answer : r ≡ looked_up farm house given name

-- `look_up_value`
pub record HandsBack (farm house : List ℕ) (given : Given) (name part : List ℕ) : Type 0 where
  pub answer : part ≡ value_part farm house (looked_up farm house given name)

-- `translate`
pub record Translates (text farm house : List ℕ) (given : Given) (flags allowance : ℕ) (out : List ℕ) (r : Translation) (after : List ℕ) : Type 0 where
  pub answer : r ≡ translated text farm house given flags allowance (length out)
  pub buffer : after ≡ out_after text farm house given flags allowance out

-- `evaluate`
pub record Evaluates (text farm house : List ℕ) (allowance : ℕ) (r : Evaluated) : Type 0 where
  pub answer : r ≡ evaluated text farm house allowance
