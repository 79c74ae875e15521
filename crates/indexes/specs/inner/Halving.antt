-- The entries of an index, whatever its bytes are: the place that one holds, the search of a name by halving, and where one more is put.
use Rattle.std.specs.Prelude.{cond, List, ◌∷◌, ◌++◌, ℕ, zero, suc, ◌+◌, ◌*◌, ◌-◌, ◌/◌, ◌%◌, ltb, length, get_or, take, drop, Option, Some, None}
use Rattle.std.proofs.Math.Seq.{slice}
use Rattle.paper.specs.declared.Holder.TheVariants.{House}
use Rattle.records.specs.Records.{name_at, same_name, comes_before, entry_at}
use Rattle.records.specs.Kinds.{variable_at}
use Rattle.records.specs.declared.Variable.{Variable}
use Rattle.variables.specs.Tables.{most, Sought, absent, present}

-- an entry's place: two bytes, the low byte first
unfoldable pub place_in : List ℕ → ℕ → ℕ
place_in index entry = get_or index (2 * entry) 0 + 256 * get_or index (2 * entry + 1) 0

abbrev pub name_in : List ℕ → List ℕ → ℕ → List ℕ
name_in table index entry = name_at table (place_in index entry)

-- so many halvings leave one of 256 entries
abbrev pub halvings : ℕ
halvings = 8

-- of so many entries from one on, the last that a name does not come before, or the first of them where there is none: the name is
-- compared with the one in the middle, and half of them are left
unfoldable pub nearest : ℕ → List ℕ → List ℕ → List ℕ → ℕ → ℕ → ℕ
nearest zero table index name first size = first
nearest (suc more) table index name first size =
    let middle = first + size / 2 in
    let lower = nearest more table index name first (size / 2) in
    let upper = nearest more table index name middle (size - size / 2) in
    cond (ltb 1 size) (cond (comes_before name (name_in table index middle)) lower upper) first

-- how many entries an index has; one of more than 256 fits no table, and none of it counts
abbrev pub count_in : List ℕ → ℕ
count_in index = cond (ltb (2 * most) (length index)) 0 (length index / 2)

-- the record that the nearest entry leads to, where it has the name
abbrev pub met_at : List ℕ → ℕ → List ℕ → Sought
met_at table place name = cond (same_name (name_at table place) name) (present (entry_at table place)) absent

unfoldable pub searched : List ℕ → List ℕ → List ℕ → Sought
searched table index name =
    cond (ltb 0 (count_in index)) (met_at table (place_in index (nearest halvings table index name 0 (count_in index))) name) absent

-- the same as the code hands it out, from the house's table
abbrev pub match_in : List ℕ → Sought → Option Variable
match_in table absent = None
match_in table (present e) = Some (variable_at House table e)

-- where one more name goes among so many entries: behind the nearest, or before all of them
unfoldable pub slot_in : List ℕ → List ℕ → ℕ → List ℕ → ℕ
slot_in table index count name =
    let near = nearest halvings table index name 0 count in
    cond (ltb 0 count) (cond (comes_before name (name_in table index near)) near (near + 1)) 0

-- two bytes of room at a place: what stands between it and another goes up by two
abbrev pub gap_in : ℕ → ℕ → List ℕ → List ℕ
gap_in from end out = take (from + 2) out ++ (slice from end out ++ drop (end + 2) out)

-- a place as an entry among so many
unfoldable pub with_entry : ℕ → ℕ → ℕ → List ℕ → List ℕ
with_entry slot count place out =
    take (2 * slot) out ++ (place % 256 ∷ place / 256 ∷ (slice (2 * slot) (2 * count) out ++ drop (2 * count + 2) out))
