-- What `check_table`, `look_up` and `look_up_value` promise, over what their contracts allow.
use Rattle.std.specs.Prelude.{◌≡◌, true, false, ◌↔◌, ℕ, ◌+◌, ◌≤◌, ◌<◌, length, take, drop, Result}
use mathlib.Core.List.{List, [], map, flatten, Memᴰ}
use Rattle.paper.specs.Answers.{in_text, in_farm, in_index, counted_in}
use Rattle.paper.specs.declared.Holder.{Holder}
use Rattle.paper.specs.Refusals.{refusal_number, unknown_name, over_length, bad_index, longest}
use Rattle.paper.specs.declared.refusals.BadTable.{BadTable}
use Rattle.paper.specs.declared.refusals.Refusal.{Refusal}
use Rattle.records.specs.Records.{Entry, record_bytes, same_name}
use Rattle.variables.specs.Tables.{most, sound, checked, check_number, check_count, check_numbers, records_of}
use Rattle.variables.specs.Holdings.{held_by}
use Rattle.indexes.specs.Indexes.{Given, no_index, fits}
use Rattle.variables.specs.Judgements.{bad_table, judgement}
use Rattle.lookups.specs.Lookups.{Found, found_number, found_counted, found_place, found_kind, found_start, found_length, look_up_numbers}
use Rattle.promises.specs.Accepted.{is_good, is_known}
use Rattle.promises.specs.Allowed.{Checks, LooksUp, HandsBack}

-- one answer each
abbrev pub OneCheck : Type 0
OneCheck = (table : List ℕ) (r r' : Result ℕ BadTable) → Checks table r → Checks table r' → r ≡ r'

abbrev pub OneFound : Type 0
OneFound = (farm house : List ℕ) (given : Given) (name : List ℕ) (r r' : Found) → LooksUp farm house given name r → LooksUp farm house given name r' → r ≡ r'

abbrev pub OnePart : Type 0
OnePart = (farm house : List ℕ) (given : Given) (name part part' : List ℕ) → HandsBack farm house given name part → HandsBack farm house given name part' → part ≡ part'

-- the number is 0 exactly in the case of a good table, and of a known name
abbrev pub CheckAccepts : Type 0
CheckAccepts = (table : List ℕ) (r : Result ℕ BadTable) → Checks table r → (check_number r ≡ 0) ↔ (is_good r ≡ true)

abbrev pub LookUpAccepts : Type 0
LookUpAccepts = (farm house : List ℕ) (given : Given) (name : List ℕ) (r : Found) → LooksUp farm house given name r → (found_number r ≡ 0) ↔ (is_known r ≡ true)

-- Demand 1: good, or one of the listed refusals; found, or one of them or unknown
abbrev pub CheckRefusals : Type 0
CheckRefusals = (table : List ℕ) (r : Result ℕ BadTable) → Checks table r → Memᴰ (check_number r) check_numbers

abbrev pub LookUpRefusals : Type 0
LookUpRefusals = (farm house : List ℕ) (given : Given) (name : List ℕ) (r : Found) → LooksUp farm house given name r → Memᴰ (found_number r) look_up_numbers

-- 18 exactly where the table is too long
abbrev pub OverLength : Type 0
OverLength = (table : List ℕ) (r : Result ℕ BadTable) → Checks table r → (check_number r ≡ over_length) ↔ (longest < length table)

-- Demand 2: a good table is its records' bytes, one behind the other; the check says how many they are, 256 at most; each of them is
-- sound, and their names are unequal
pub record Records (table : List ℕ) (r : Result ℕ BadTable) : Type 0 where
  pub bytes : table ≡ flatten (map record_bytes (records_of table))
  pub count : length (records_of table) ≡ check_count r
  pub few : check_count r ≤ most
  pub sounds : (e : Entry) → Memᴰ e (records_of table) → sound table e.place ≡ true
  pub unequal : (e f : Entry) → Memᴰ e (records_of table) → Memᴰ f (records_of table) → same_name e.name f.name ≡ true → e ≡ f

abbrev pub Good : Type 0
Good = (table : List ℕ) (r : Result ℕ BadTable) → Checks table r → check_number r ≡ 0 → Records table r

-- tables that are not good are refused as they are judged, with no text before them, and the answer says which, and where in it
abbrev pub Judges : Type 0
Judges =
    (farm house : List ℕ) (given : Given) (name : List ℕ) (r : Found) (why : Refusal) (holder : Holder) (place : ℕ) → LooksUp farm house given name r
    → judgement [] farm house ≡ bad_table why holder place
    → (found_number r ≡ refusal_number why) × (found_counted r ≡ counted_in holder) × (found_place r ≡ place)

-- a name is known exactly where both tables are good, the index fits and a record of either has it: an equal name in both is no fault
pub record HasIt (farm house name : List ℕ) : Type 0 where
  pub holder : Holder
  pub entry : Entry
  pub member : Memᴰ entry (records_of (held_by holder farm house))
  pub named : same_name entry.name name ≡ true

abbrev pub Known : Type 0
Known =
    (farm house : List ℕ) (given : Given) (name : List ℕ) (r : Found) → LooksUp farm house given name r
    → (found_number r ≡ 0) ↔ ((check_number (checked farm) ≡ 0) × (check_number (checked house) ≡ 0) × (fits given house ≡ true) × HasIt farm house name)

-- what was found is a record with that name of the table that the answer says: its place, its kind, and the part of that table that is its
-- value
pub record Names (farm house name : List ℕ) (r : Found) : Type 0 where
  pub holder : Holder
  pub counted : found_counted r ≡ counted_in holder
  pub entry : Entry
  pub member : Memᴰ entry (records_of (held_by holder farm house))
  pub named : same_name entry.name name ≡ true
  pub place : found_place r ≡ entry.place
  pub kind : found_kind r ≡ entry.kind
  pub value : take (found_length r) (drop (found_start r) (held_by holder farm house)) ≡ entry.value

abbrev pub Finds : Type 0
Finds = (farm house : List ℕ) (given : Given) (name : List ℕ) (r : Found) → LooksUp farm house given name r → found_number r ≡ 0 → Names farm house name r

-- a record of the farm's table is found before any of the house's, whatever their kinds are
abbrev pub Hides : Type 0
Hides =
    (farm house : List ℕ) (given : Given) (name : List ℕ) (r : Found) (e : Entry) → LooksUp farm house given name r
    → check_number (checked farm) ≡ 0 → check_number (checked house) ≡ 0 → fits given house ≡ true → Memᴰ e (records_of farm) → same_name e.name name ≡ true
    → (found_number r ≡ 0) × (found_counted r ≡ in_farm) × (found_place r ≡ e.place) × (found_kind r ≡ e.kind)

-- a name is unknown exactly where both tables are good, the index fits and no record of either has it
abbrev pub Misses : Type 0
Misses =
    (farm house : List ℕ) (given : Given) (name : List ℕ) (r : Found) → LooksUp farm house given name r
    → (found_number r ≡ unknown_name)
    ↔ ((check_number (checked farm) ≡ 0) × (check_number (checked house) ≡ 0) × (fits given house ≡ true)
    × ((holder : Holder) (e : Entry) → Memᴰ e (records_of (held_by holder farm house)) → same_name e.name name ≡ false))

-- 20 exactly where both tables are good and the index does not fit, whatever the name is: at place 0 of the index
abbrev pub BadIndex : Type 0
BadIndex =
    (farm house : List ℕ) (given : Given) (name : List ℕ) (r : Found) → LooksUp farm house given name r
    → ((found_number r ≡ bad_index)
    ↔ ((check_number (checked farm) ≡ 0) × (check_number (checked house) ≡ 0) × (fits given house ≡ false)))
    × (found_number r ≡ bad_index → (found_counted r ≡ in_index) × (found_place r ≡ 0))

-- a refused look-up has no kind, start or length, and an unknown name's place is the name's start
abbrev pub Refused : Type 0
Refused =
    (farm house : List ℕ) (given : Given) (name : List ℕ) (r : Found) → LooksUp farm house given name r → (found_number r ≡ 0 → ⊥)
    → (found_kind r ≡ 0) × (found_start r ≡ 0) × (found_length r ≡ 0)
    × (found_number r ≡ unknown_name → (found_counted r ≡ in_text) × (found_place r ≡ 0))

-- through an index that fits, every answer is that without one
abbrev pub Through : Type 0
Through =
    (farm house : List ℕ) (given : Given) (name : List ℕ) (r r' : Found) → fits given house ≡ true
    → LooksUp farm house given name r → LooksUp farm house no_index name r' → r ≡ r'

-- the value of what was found lies inside the table that the answer says
abbrev pub Inside : Type 0
Inside =
    (farm house : List ℕ) (given : Given) (name : List ℕ) (r : Found) (holder : Holder) → LooksUp farm house given name r → found_number r ≡ 0 → found_counted r ≡ counted_in holder
    → found_start r + found_length r ≤ length (held_by holder farm house)

-- the part that is handed back is that value where a name is known, and an empty one elsewhere
abbrev pub Part : Type 0
Part =
    (farm house : List ℕ) (given : Given) (name part : List ℕ) (r : Found) → LooksUp farm house given name r → HandsBack farm house given name part
    → ((holder : Holder) → found_number r ≡ 0 → found_counted r ≡ counted_in holder
    → part ≡ take (found_length r) (drop (found_start r) (held_by holder farm house)))
    × ((found_number r ≡ 0 → ⊥) → part ≡ [])
