-- What `build_index` promises, over what its contract allows: the order of names, the one arrangement of a table's records, and that an index
-- as it was built fits.
use Rattle.std.specs.Prelude.{◌≡◌, true, false, ◌↔◌, ℕ, suc, ◌+◌, ◌*◌, ◌≤◌, ◌<◌, length, get_or, take, drop, Result}
use mathlib.Core.List.{List, ◌∷◌, ◌++◌, Memᴰ}
use Rattle.paper.specs.Answers.{in_text, in_house, Answer, refusal, GrownWhole}
use Rattle.paper.specs.Refusals.{no_room, bad_index}
use Rattle.records.specs.Records.{Entry, small, same_name, comes_before}
use Rattle.variables.specs.Tables.{checked, check_number, check_place, check_count, records_of, sought_in}
use Rattle.indexes.specs.Indexes.{no_index, given_index, index_of, in_order, fits}
use Rattle.indexes.specs.Buildings.{built_answer, build_numbers}
use Rattle.indexes.specs.inner.Halving.{halvings, nearest, searched}
use Rattle.indexes.specs.declared.building.Built.{Built}
use Rattle.lookups.specs.Lookups.{found_number, Found}
use Rattle.gs.specs.Translations.{Translation, translated_answer}
use Rattle.indexes.specs.declared.building.NotBuilt.{NotBuilt}
use Rattle.promises.specs.Accepted.{is_built}
use Rattle.promises.specs.Allowed.{Builds, LooksUp, Translates}
use Rattle.promises.specs.Ties.{given_at}

-- the order of names: no name comes before itself, what comes before a name that comes before another comes before that, of two names
-- neither comes before the other exactly when they are equal, a proper beginning comes first, and else the first two bytes that are not alike
-- decide, with A to Z as a to z
pub record Order : Type 0 where
  pub not_itself : (a : List ℕ) → comes_before a a ≡ false
  pub through : (a b c : List ℕ) → comes_before a b ≡ true → comes_before b c ≡ true → comes_before a c ≡ true
  pub equal : (a b : List ℕ) → ((comes_before a b ≡ false) × (comes_before b a ≡ false)) ↔ (same_name a b ≡ true)
  pub beginning : (a : List ℕ) (c : ℕ) (rest : List ℕ) → comes_before a (a ++ (c ∷ rest)) ≡ true
  pub by_bytes : (front a b : List ℕ) (x y : ℕ) → small x < small y → comes_before (front ++ (x ∷ a)) (front ++ (y ∷ b)) ≡ true

-- records in the order of their names
abbrev pub Rise : List Entry → Type 0
Rise es = (front : List Entry) (e f : Entry) (back : List Entry) → es ≡ front ++ (e ∷ f ∷ back) → comes_before e.name f.name ≡ true

-- the records of a good table are in their order one behind the other, all of them and as many, and no other list of them is so; the index
-- has the place of each, the low byte first
pub record Arranged (table : List ℕ) : Type 0 where
  pub rise : Rise (in_order table)
  pub all : (e : Entry) → Memᴰ e (records_of table) → Memᴰ e (in_order table)
  pub many : length (in_order table) ≡ length (records_of table)
  pub only : (es : List Entry) → Rise es → ((e : Entry) → Memᴰ e es → Memᴰ e (records_of table)) → length es ≡ length (records_of table)
      → es ≡ in_order table
  pub places : (front : List Entry) (e : Entry) (back : List Entry) → in_order table ≡ front ++ (e ∷ back)
      → let low = get_or (index_of table) (2 * length front) 0 in
      (low + 256 * get_or (index_of table) (2 * length front + 1) 0 ≡ e.place) × (low < 256)

abbrev pub OneArrangement : Type 0
OneArrangement = (table : List ℕ) → check_number (checked table) ≡ 0 → Arranged table

-- one answer and one content of the buffer
abbrev pub OneAnswer : Type 0
OneAnswer = (table out after after' : List ℕ) (r r' : Result Built NotBuilt) → Builds table out r after → Builds table out r' after' → (r ≡ r') × (after ≡ after')

-- the number is 0 exactly in the case of an index
abbrev pub Accepts : Type 0
Accepts = (table out after : List ℕ) (r : Result Built NotBuilt) → Builds table out r after → ((built_answer r).number ≡ 0) ↔ (is_built r ≡ true)

-- Demand 1: accepted, or one of the listed refusals
abbrev pub Refusals : Type 0
Refusals = (table out after : List ℕ) (r : Result Built NotBuilt) → Builds table out r after → Memᴰ (built_answer r).number build_numbers

-- a table that is refused is refused as its check refuses it, counted in the house's table, with nothing changed; a good one needs two bytes
-- for each record: the buffer lacks them, and nothing is changed, or the index stands at the start and the bytes behind it are kept
pub record Exactly (table out after : List ℕ) (a : Answer) : Type 0 where
  pub refused :
      (check_number (checked table) ≡ 0 → ⊥)
      → (a ≡ refusal (check_number (checked table)) in_house (check_place (checked table)) (length out)) × (after ≡ out)
  pub lacking :
      check_number (checked table) ≡ 0 → length out < 2 * check_count (checked table)
      → (a ≡ record { number = no_room; counted = in_text; place = 0; need = 2 * check_count (checked table); free = length out }) × (after ≡ out)
  pub built :
      check_number (checked table) ≡ 0 → 2 * check_count (checked table) ≤ length out
      → (a.number ≡ 0) × (a.counted ≡ in_text) × (a.place ≡ 0) × (a.need ≡ 2 * check_count (checked table))
      × (a.free + a.need ≡ length out) × (length (index_of table) ≡ a.need) × (after ≡ index_of table ++ drop a.need out)

abbrev pub Exact : Type 0
Exact = (table out after : List ℕ) (r : Result Built NotBuilt) → Builds table out r after → Exactly table out after (built_answer r)

-- Demand 3: an answer other than No room stays the same in every larger room: the same number, place, what it is counted in, need and bytes,
-- its free up by exactly the room added
abbrev pub LargerRoom : Type 0
LargerRoom =
    (table : List ℕ) (more : ℕ) (out after out' after' : List ℕ) (r r' : Result Built NotBuilt) → length out' ≡ length out + more
    → Builds table out r after → Builds table out' r' after' → ((built_answer r).number ≡ no_room → ⊥)
    → GrownWhole after out' after' more (built_answer r) (built_answer r')

-- The second ask: with the room that No room carries, and with any larger one, the index is built
abbrev pub SecondAsk : Type 0
SecondAsk =
    (table out after out' after' : List ℕ) (r r' : Result Built NotBuilt) → Builds table out r after → (built_answer r).number ≡ no_room
    → (built_answer r).need ≤ length out' → Builds table out' r' after' → (built_answer r').number ≡ 0

-- an index fits exactly when its bytes are those that building gives, so that a longer one with a right beginning does not
abbrev pub Fits : Type 0
Fits = (table index : List ℕ) → (fits (given_index index) table ≡ true) ↔ (index ≡ index_of table)

-- what was built is never refused by 20, in a look-up or in a translation
abbrev pub BuiltFits : Type 0
BuiltFits =
    (farm house out after : List ℕ) (b : Result Built NotBuilt) → Builds house out b after → (built_answer b).number ≡ 0
    → let given = given_index (take (built_answer b).need after) in
    ((name : List ℕ) (r : Found) → LooksUp farm house given name r → found_number r ≡ bad_index → ⊥)
    × ((text : List ℕ) (flags allowance : ℕ) (buf left : List ℕ) (r : Translation) → Translates text farm house given flags allowance buf r left
    → (translated_answer r).number ≡ bad_index → ⊥)

-- there is no index at `indexed` 0, whatever its bytes are, and then nothing has to fit; at every other number there is one
pub record Indexed (index house : List ℕ) : Type 0 where
  pub none : given_at 0 index ≡ no_index
  pub one : (n : ℕ) → given_at (suc n) index ≡ given_index index
  pub nothing_to_fit : fits no_index house ≡ true

abbrev pub ByNumber : Type 0
ByNumber = (index house : List ℕ) → Indexed index house

-- the search by halving finds in a good table's own index what a look-up in the table finds. As it is defined it halves eight times at most, so
-- that with the test for equality nine names of 256 are compared: more halvings would lead to the same entry
pub record Halves (table name : List ℕ) : Type 0 where
  pub same : searched table (index_of table) name ≡ sought_in table name
  pub enough : (index : List ℕ) (count more : ℕ) → count ≤ 256 → nearest (halvings + more) table index name 0 count ≡ nearest halvings table index name 0 count

abbrev pub ByHalving : Type 0
ByHalving = (table name : List ℕ) → check_number (checked table) ≡ 0 → Halves table name
