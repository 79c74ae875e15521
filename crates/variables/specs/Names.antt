-- What a name means, by value: a reading asks this and knows no table.
use Rattle.std.specs.Prelude.{List, ℕ}
use Rattle.records.specs.Records.{Entry}
use Rattle.records.specs.Kinds.{kind_of, pattern}
use Rattle.records.specs.declared.kinds.Kind.{Kind}
use Rattle.records.specs.declared.kinds.Kind.TheVariants.{Text, Integer, Macro}
use Rattle.variables.specs.Holdings.{Holding, nowhere, held, sought_in_both}

pub data Meaning : Type 0 where
  unknown : Meaning
  string_of : List ℕ → Meaning
  integer_of : ℕ → Meaning
  macro_of : List ℕ → Meaning

-- what a value is, by the kind of its variable
abbrev pub value_as : Kind → List ℕ → Meaning
value_as Text value = string_of value
value_as Integer value = integer_of (pattern value)
value_as Macro value = macro_of value

unfoldable pub meant : Entry → Meaning
meant e = value_as (kind_of e.kind) e.value

abbrev pub in_reading : Holding → Meaning
in_reading nowhere = unknown
in_reading (held holder e) = meant e

-- what names mean in the farm's table and the house's
abbrev pub names_of : List ℕ → List ℕ → List ℕ → Meaning
names_of farm house name = in_reading (sought_in_both farm house name)
