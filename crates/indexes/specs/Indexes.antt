-- The index of a table: the places of its records in the order of their names, two bytes each, and when an index fits.
use Rattle.std.specs.Borrow.{Bor}
use Rattle.std.specs.Prelude.{Bool, true, cond, List, [], ◌∷◌, ℕ, ◌/◌, ◌%◌, Option, Some, None}
use Rattle.records.specs.Records.{Entry, same_bytes, comes_before}
use Rattle.variables.specs.Tables.{records_of}

-- a record among others: before the first of them that its name comes before
unfoldable pub inserted : Entry → List Entry → List Entry
inserted e [] = e ∷ []
inserted e (f ∷ fs) = let rest = inserted e fs in cond (comes_before e.name f.name) (e ∷ f ∷ fs) (f ∷ rest)

-- record after record
unfoldable pub inserted_all : List Entry → List Entry → List Entry
inserted_all [] sorted = sorted
inserted_all (e ∷ es) sorted = inserted_all es (inserted e sorted)

-- a good table's records in the order of their names
abbrev pub in_order : List ℕ → List Entry
in_order table = inserted_all (records_of table) []

-- their places, two bytes each, the low byte first
abbrev pub place_bytes : List Entry → List ℕ
place_bytes [] = []
place_bytes (e ∷ es) = e.place % 256 ∷ e.place / 256 ∷ place_bytes es

abbrev pub index_of : List ℕ → List ℕ
index_of table = place_bytes (in_order table)

-- what a call is given beside the house's table
pub data Given : Type 0 where
  no_index : Given
  given_index : List ℕ → Given

abbrev pub given_by : Bool → List ℕ → Given
given_by indexed index = cond indexed (given_index index) no_index

-- the same of an index that may be lent
abbrev pub given_as : Option (Bor (List ℕ)) → Given
given_as None = no_index
given_as (Some index) = given_index index.now

-- an index fits exactly when its bytes are those that building gives; where none is given, nothing has to fit
abbrev pub fits : Given → List ℕ → Bool
fits no_index house = true
fits (given_index index) house = same_bytes index (index_of house)
