-- The records of a table, when it is good, and which of them a name means.
use Rattle.std.specs.Prelude.{Bool, true, false, cond, ◌&&◌, List, [], ◌∷◌, ℕ, zero, suc, ltb, leb, length, Result, Ok, Err}
use Rattle.paper.specs.Refusals.{refusal_number, bad_table, over_length, too_long}
use Rattle.paper.specs.declared.refusals.BadTable.{BadTable}
use Rattle.paper.specs.declared.refusals.Refusal.{Refusal}
use Rattle.paper.specs.declared.refusals.Refusal.TheVariants as Why
use Rattle.records.specs.Records.{next_place, name_at, shaped, same_name, Entry, entry_at}

abbrev pub most : ℕ
most = 256

-- the records from a place on that start before `stop`, at most so many
unfoldable pub entries : ℕ → List ℕ → ℕ → ℕ → List Entry
entries zero table stop place = []
entries (suc more) table stop place =
    let rest = entries more table stop (next_place table place) in
    cond (ltb place stop) (entry_at table place ∷ rest) []

-- a name sought among records: the first that has it, if any
pub data Sought : Type 0 where
  absent : Sought
  present : Entry → Sought

abbrev pub is_absent : Sought → Bool
is_absent absent = true
is_absent (present e) = false

unfoldable pub sought : List Entry → List ℕ → Sought
sought [] name = absent
sought (e ∷ es) name = let rest = sought es name in cond (same_name e.name name) (present e) rest

-- the records that start before a place
abbrev pub before : List ℕ → ℕ → List Entry
before table place = entries most table place 0

-- no record before it has an equal name
abbrev pub is_new : List ℕ → ℕ → Bool
is_new table place = is_absent (sought (before table place) (name_at table place))

-- a record that is not bad: of the right shape, and new
unfoldable pub sound : List ℕ → ℕ → Bool
sound table place = shaped table place && is_new table place

abbrev pub bad_table_at : Refusal → ℕ → Result ℕ BadTable
bad_table_at why place = Err (record { why = why; at = record { 0 = place } })

-- the records one behind the other, up to the slice's end; the first bad one is refused, and anything behind 256 of them
unfoldable pub scanned : ℕ → ℕ → List ℕ → ℕ → Result ℕ BadTable
scanned zero count table place = cond (leb (length table) place) (Ok count) (bad_table_at Why.BadTable place)
scanned (suc more) count table place =
    let rest = scanned more (suc count) table (next_place table place) in
    cond (leb (length table) place) (Ok count) (cond (sound table place) rest (bad_table_at Why.BadTable place))

-- a table of any length
abbrev pub scan : List ℕ → Result ℕ BadTable
scan table = scanned most 0 table 0

-- its length is tested first
unfoldable pub checked : List ℕ → Result ℕ BadTable
checked table = cond (too_long table) (bad_table_at Why.OverLength 0) (scan table)

-- the records of a good table
abbrev pub records_of : List ℕ → List Entry
records_of table = entries most table (length table) 0

-- the record of a good table that a name means
abbrev pub sought_in : List ℕ → List ℕ → Sought
sought_in table name = sought (records_of table) name

-- the paper's numbers of a check: the refusal's number, 0 where the table is good; the place; how many records
abbrev pub check_number : Result ℕ BadTable → ℕ
check_number (Ok count) = 0
check_number (Err bad) = refusal_number bad.why

abbrev pub check_place : Result ℕ BadTable → ℕ
check_place (Ok count) = 0
check_place (Err bad) = bad.at.0

abbrev pub check_count : Result ℕ BadTable → ℕ
check_count (Ok count) = count
check_count (Err bad) = 0

-- the numbers that an answer can have, in the order in which the refusals are looked for
abbrev pub check_numbers : List ℕ
check_numbers = 0 ∷ over_length ∷ bad_table ∷ []
