-- Two tables: which of them holds a record, where a name is looked for first, and the value of what was found.
use Rattle.std.specs.Prelude.{List, ℕ, take, drop}
use Rattle.paper.specs.declared.Holder.{Holder}
use Rattle.paper.specs.declared.Holder.TheVariants.{Farm, House}
use Rattle.records.specs.Records.{Entry}
use Rattle.records.specs.declared.Variable.{Variable}
use Rattle.variables.specs.Tables.{Sought, absent, present, sought_in}

-- that one of the two, the farm's and the house's
abbrev pub held_by : Holder → List ℕ → List ℕ → List ℕ
held_by Farm farm house = farm
held_by House farm house = house

-- a record, and the table that holds it
pub data Holding : Type 0 where
  nowhere : Holding
  held : Holder → Entry → Holding

abbrev pub held_in : Holder → Sought → Holding
held_in holder absent = nowhere
held_in holder (present e) = held holder e

abbrev pub or_else : Holding → Holding → Holding
or_else nowhere second = second
or_else (held holder e) second = held holder e

-- the record of two good tables that a name means: the farm's if there is one, else the house's
abbrev pub sought_in_both : List ℕ → List ℕ → List ℕ → Holding
sought_in_both farm house name = or_else (held_in Farm (sought_in farm name)) (held_in House (sought_in house name))

-- the part of whichever table holds a variable that is its value
abbrev pub part_of : List ℕ → List ℕ → Variable → List ℕ
part_of farm house v = take v.length (drop v.start (held_by v.holder farm house))
