-- What `translate` promises, over what its contract allows, in the paper's numbers of an answer. Demand 3 is stated over the trace of the
-- paper's own reading.
use Rattle.std.specs.Prelude.{◌≡◌, Bool, true, false, ◌↔◌, ℕ, ◌+◌, ◌≤◌, ◌<◌, length, drop}
use mathlib.Core.List.{List, ◌++◌, Memᴰ}
use Rattle.paper.specs.Answers.{in_text, in_house, in_farm, in_index, counted_in, Answer, refusal, GrownWhole}
use Rattle.paper.specs.Refusals.{refusal_number, no_room, allowance_spent, over_length, bad_index, longest}
use Rattle.paper.specs.Traces.{Trace, bytes, answer, Succeeds, look_ups, allowed}
use Rattle.variables.specs.Judgements.{Judgement, good, long_text, bad_table, judgement}
use Rattle.indexes.specs.Indexes.{Given, no_index, fits}
use Rattle.gs.specs.Translations.{Translation, reading_of, translated_answer, translate_numbers}
use Rattle.promises.specs.Accepted.{is_translated}
use Rattle.promises.specs.Allowed.{Translates}

-- one answer and one content of the buffer
abbrev pub OneAnswer : Type 0
OneAnswer =
    (text farm house : List ℕ) (given : Given) (flags allowance : ℕ) (out after after' : List ℕ) (r r' : Translation)
    → Translates text farm house given flags allowance out r after → Translates text farm house given flags allowance out r' after' → (r ≡ r') × (after ≡ after')

-- the number is 0 exactly in the case of a translation
abbrev pub Accepts : Type 0
Accepts =
    (text farm house : List ℕ) (given : Given) (flags allowance : ℕ) (out after : List ℕ) (r : Translation)
    → Translates text farm house given flags allowance out r after → ((translated_answer r).number ≡ 0) ↔ (is_translated r ≡ true)

-- Demand 1: accepted, or one of the listed refusals
abbrev pub Refusals : Type 0
Refusals =
    (text farm house : List ℕ) (given : Given) (flags allowance : ℕ) (out after : List ℕ) (r : Translation)
    → Translates text farm house given flags allowance out r after → Memᴰ (translated_answer r).number translate_numbers

-- a refusal changes no byte
abbrev pub Kept : Type 0
Kept =
    (text farm house : List ℕ) (given : Given) (flags allowance : ℕ) (out after : List ℕ) (r : Translation) → Translates text farm house given flags allowance out r after
    → ((translated_answer r).number ≡ 0 → ⊥) → after ≡ out

-- its free is the room, and its need 0 but for No room
abbrev pub Refused : Type 0
Refused =
    (text farm house : List ℕ) (given : Given) (flags allowance : ℕ) (out after : List ℕ) (r : Translation) → Translates text farm house given flags allowance out r after
    → ((translated_answer r).number ≡ 0 → ⊥)
    → ((translated_answer r).free ≡ length out) × (((translated_answer r).number ≡ no_room → ⊥) → (translated_answer r).need ≡ 0)

-- Demand 2: an accepted text leaves the bytes that its reading gives, as many as the need, and what is behind them
abbrev pub Bytes : Type 0
Bytes =
    (text farm house : List ℕ) (given : Given) (flags allowance : ℕ) (out after : List ℕ) (r : Translation) → Translates text farm house given flags allowance out r after
    → (translated_answer r).number ≡ 0
    → let read = bytes (reading_of text farm house flags) in
    (after ≡ read ++ drop (length read) out) × ((translated_answer r).need ≡ length read)

-- the answer, whatever is found of text, tables and index before the text is read: 18, 13 and 20 go by neither room nor allowance, and say
-- what their place is counted in; else the answer is that of the reading's trace
abbrev pub judged_answer : Judgement → Bool → Trace → ℕ → ℕ → Answer
judged_answer long_text fit reading allowance room = refusal over_length in_text 0 room
judged_answer (bad_table why holder place) fit reading allowance room = refusal (refusal_number why) (counted_in holder) place room
judged_answer good false reading allowance room = refusal bad_index in_index 0 room
judged_answer good true reading allowance room = answer reading (allowed allowance) room

abbrev pub ByReading : Type 0
ByReading =
    (text farm house : List ℕ) (given : Given) (flags allowance : ℕ) (out after : List ℕ) (r : Translation) → Translates text farm house given flags allowance out r after
    → translated_answer r ≡ judged_answer (judgement text farm house) (fits given house) (reading_of text farm house flags) allowance (length out)

-- a text is accepted exactly when it and its tables are good, the index fits, the reading succeeds within its allowance, and what it needs
-- has room
abbrev pub Accepted : Type 0
Accepted =
    (text farm house : List ℕ) (given : Given) (flags allowance : ℕ) (out after : List ℕ) (r : Translation) → Translates text farm house given flags allowance out r after
    → let reading = reading_of text farm house flags in
    ((translated_answer r).number ≡ 0)
    ↔ ((judgement text farm house ≡ good) × (fits given house ≡ true) × (look_ups reading ≤ allowed allowance) × Succeeds reading × (length (bytes reading) ≤ length out))

-- 18 exactly where the text is too long, counted in the text, or else the farm's table, counted there, or else the house's
abbrev pub OverLength : Type 0
OverLength =
    (text farm house : List ℕ) (given : Given) (flags allowance : ℕ) (out after : List ℕ) (r : Translation) → Translates text farm house given flags allowance out r after
    → ((((translated_answer r).number ≡ over_length) × ((translated_answer r).counted ≡ in_text)) ↔ (longest < length text))
    × ((((translated_answer r).number ≡ over_length) × ((translated_answer r).counted ≡ in_farm)) ↔ ((length text ≤ longest) × (longest < length farm)))
    × ((((translated_answer r).number ≡ over_length) × ((translated_answer r).counted ≡ in_house))
    ↔ ((length text ≤ longest) × (length farm ≤ longest) × (longest < length house)))

-- 20 exactly where the text and both tables are found good and the index does not fit: directly behind 13, even where no name is looked up
abbrev pub BadIndex : Type 0
BadIndex =
    (text farm house : List ℕ) (given : Given) (flags allowance : ℕ) (out after : List ℕ) (r : Translation)
    → Translates text farm house given flags allowance out r after
    → ((translated_answer r).number ≡ bad_index) ↔ ((judgement text farm house ≡ good) × (fits given house ≡ false))

-- through an index that fits, every answer is that without one: the same numbers, and the same bytes
abbrev pub Through : Type 0
Through =
    (text farm house : List ℕ) (given : Given) (flags allowance : ℕ) (out after after' : List ℕ) (r r' : Translation) → fits given house ≡ true
    → Translates text farm house given flags allowance out r after → Translates text farm house no_index flags allowance out r' after'
    → (r ≡ r') × (after ≡ after')

-- Demand 3: an answer other than No room or Allowance spent stays the same under every larger room and allowance: the same number, place,
-- what it is counted in, need and bytes, its free up by exactly the room added
abbrev pub Larger : Type 0
Larger =
    (text farm house : List ℕ) (given : Given) (flags allowance allowance' more : ℕ) (out after out' after' : List ℕ) (r r' : Translation)
    → allowance ≤ allowance' → length out' ≡ length out + more
    → Translates text farm house given flags allowance out r after → Translates text farm house given flags allowance' out' r' after'
    → ((translated_answer r).number ≡ no_room → ⊥) → ((translated_answer r).number ≡ allowance_spent → ⊥)
    → GrownWhole after out' after' more (translated_answer r) (translated_answer r')

-- No room comes exactly when the reading succeeds within its allowance and needs more than the room
abbrev pub NoRoom : Type 0
NoRoom =
    (text farm house : List ℕ) (given : Given) (flags allowance : ℕ) (out after : List ℕ) (r : Translation) → Translates text farm house given flags allowance out r after
    → let reading = reading_of text farm house flags in
    ((translated_answer r).number ≡ no_room)
    ↔ ((judgement text farm house ≡ good) × (fits given house ≡ true) × (look_ups reading ≤ allowed allowance) × Succeeds reading × (length out < length (bytes reading)))

-- its need is the number of the bytes that the reading gives, and does not change with the allowance
abbrev pub Need : Type 0
Need =
    (text farm house : List ℕ) (given : Given) (flags allowance allowance' : ℕ) (out after out' after' : List ℕ) (r r' : Translation) → allowance ≤ allowance'
    → length out' ≡ length out → Translates text farm house given flags allowance out r after → Translates text farm house given flags allowance' out' r' after'
    → (translated_answer r).number ≡ no_room
    → ((translated_answer r).need ≡ length (bytes (reading_of text farm house flags))) × (translated_answer r' ≡ translated_answer r)

-- Allowance spent comes exactly when the reading reaches one look-up more than allowed before any other refusal
abbrev pub Spent : Type 0
Spent =
    (text farm house : List ℕ) (given : Given) (flags allowance : ℕ) (out after : List ℕ) (r : Translation) → Translates text farm house given flags allowance out r after
    → ((translated_answer r).number ≡ allowance_spent) ↔ ((judgement text farm house ≡ good) × (fits given house ≡ true) × (allowed allowance < look_ups (reading_of text farm house flags)))

-- The second ask: with the room that No room carries, and with any larger one, the same text is accepted
abbrev pub SecondAsk : Type 0
SecondAsk =
    (text farm house : List ℕ) (given : Given) (flags allowance : ℕ) (out after out' after' : List ℕ) (r r' : Translation) → Translates text farm house given flags allowance out r after
    → (translated_answer r).number ≡ no_room → (translated_answer r).need ≤ length out' → Translates text farm house given flags allowance out' r' after'
    → (translated_answer r').number ≡ 0
