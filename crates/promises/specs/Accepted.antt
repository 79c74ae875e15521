-- Which case of each answer is the accepted one: a value, a string, a translation, a good table, an index, a known name.
use Rattle.std.specs.Prelude.{Bool, true, false, Ok, Err, Result, ℕ, Some, None}
use Rattle.paper.specs.Layings.{Converted}
use Rattle.paper.specs.declared.refusals.Refused.{Refused}
use Rattle.reader.specs.declared.Number.{Number}
use Rattle.indexes.specs.declared.building.Built.{Built}
use Rattle.gs.specs.Translations.{Translation}
use Rattle.paper.specs.declared.refusals.BadTable.{BadTable}
use Rattle.indexes.specs.declared.building.NotBuilt.{NotBuilt}
use Rattle.lookups.specs.Lookups.{Found}
use Rattle.expressions.specs.Answers.{Evaluated}

abbrev pub is_converted : Converted → Bool
is_converted (Ok written) = true
is_converted (Err refused) = false

abbrev pub is_read : Result Number Refused → Bool
is_read (Ok n) = true
is_read (Err r) = false

abbrev pub is_good : Result ℕ BadTable → Bool
is_good (Ok count) = true
is_good (Err bad) = false

abbrev pub is_known : Found → Bool
is_known (Ok (Some v)) = true
is_known (Ok None) = false
is_known (Err why) = false

abbrev pub is_built : Result Built NotBuilt → Bool
is_built (Ok built) = true
is_built (Err why) = false

abbrev pub is_translated : Translation → Bool
is_translated (Ok t) = true
is_translated (Err r) = false

abbrev pub is_evaluated : Evaluated → Bool
is_evaluated (Ok value) = true
is_evaluated (Err why) = false
