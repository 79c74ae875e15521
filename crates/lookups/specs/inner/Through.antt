-- Two tables with or without an index beside the house's, as the code goes through them: the lines of keys that are laid, and look-ups by
-- these and by the index.
use Rattle.std.specs.Prelude.{Bool, true, false, cond, ◌&&◌, List, [], ◌≡◌, ℕ, Result, Ok, Err, is_ok}
use Rattle.paper.specs.declared.Holder.TheVariants.{House}
use Rattle.paper.specs.declared.refusals.BadTableOf.{BadTableOf}
use Rattle.records.specs.Records.{same_bytes}
use Rattle.variables.specs.Tables.{checked}
use Rattle.variables.specs.Holdings.{Holding, held_in, or_else, sought_in_both}
use Rattle.variables.specs.inner.Keys.{sought_by}
use Rattle.indexes.specs.Indexes.{Given, no_index, given_index, index_of}
use Rattle.indexes.specs.inner.Halving.{searched}
use Rattle.lookups.specs.declared.NotGood.{NotGood}
use Rattle.lookups.specs.declared.NotGood.TheVariants.{Table, Index}

-- the index serves: the table is good, and this is its index
abbrev pub serves : List ℕ → List ℕ → Bool
serves house index = is_ok (checked house) && same_bytes index (index_of house)

-- the house's records whose lines are laid: all of them, or where an index serves, none
abbrev pub to_lay : List ℕ → Given → List ℕ
to_lay house no_index = house
to_lay house (given_index index) = cond (serves house index) [] house

-- the bytes that look-ups go by
abbrev pub bytes_given : Given → List ℕ
bytes_given no_index = []
bytes_given (given_index index) = index

-- what was found of the tables decides; then whether the index fits. So many lines are laid
abbrev pub lines_of : Result ℕ BadTableOf → ℕ
lines_of (Ok count) = count
lines_of (Err bad) = 0

abbrev pub judged_by : Result ℕ BadTableOf → Bool → ℕ → Result ℕ NotGood
judged_by (Err bad) fit lines = Err (Table bad)
judged_by (Ok count) false lines = Err Index
judged_by (Ok count) true lines = Ok lines

-- a name sought by keys, and then through an index, whatever these are
abbrev pub sought_through : List ℕ → List ℕ → List ℕ → List ℕ → List ℕ → Holding
sought_through farm house keys index name = or_else (sought_by farm house keys name) (held_in House (searched house index name))

-- these keys and this index lead to what names mean in two tables: what a function asks that looks names up by them
abbrev pub Leads : List ℕ → List ℕ → List ℕ → List ℕ → Type 0
Leads farm house keys index = (name : List ℕ) → sought_through farm house keys index name ≡ sought_in_both farm house name
