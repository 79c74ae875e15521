-- What `convert` promises, over what its contract allows, in the paper's numbers of an answer.
use Rattle.std.specs.Prelude.{◌≡◌, Bool, true, false, List, ◌++◌, ◌↔◌, ℕ, ◌+◌, ◌-◌, ◌/◌, ◌%◌, ◌≤◌, ◌<◌, length, take, drop, Result}
use Rattle.paper.specs.Answers.{in_text, Answer, refusal, GrownWhole}
use Rattle.paper.specs.Layings.{terminator, room_for, Converted, converted_answer}
use Rattle.paper.specs.Refusals.{no_room, unknown_call}
use Rattle.forms.specs.Strings.{Form, used, string}
use Rattle.forms.specs.Calls.{without_x, decimal_of, unknown, known, described}
use Rattle.reader.specs.Reading.{no_limit, read_number, read_place, read_value}
use Rattle.paper.specs.declared.refusals.Refused.{Refused}
use Rattle.reader.specs.declared.Number.{Number}
use Rattle.promises.specs.Leads.{lead}
use Rattle.promises.specs.Accepted.{is_converted}
use Rattle.promises.specs.Allowed.{Converts, Reads}

-- one answer and one content of the buffer
abbrev pub OneAnswer : Type 0
OneAnswer =
    (call value : ℕ) (buf after after' : List ℕ) (r r' : Converted)
    → Converts call value buf r after → Converts call value buf r' after' → (r ≡ r') × (after ≡ after')

-- the number is 0 exactly in the case of a string
abbrev pub Accepts : Type 0
Accepts =
    (call value : ℕ) (buf after : List ℕ) (r : Converted) → Converts call value buf r after → ((converted_answer r).number ≡ 0) ↔ (is_converted r ≡ true)

-- the room that a form's string of a value takes
abbrev pub needed : Form → ℕ → ℕ
needed form value = room_for (string form value) form.terminated

-- Demand 1: a call is refused as unknown exactly where it is, else for want of room exactly where the need is over the room, else
-- not; and a refusal changes no byte
pub record Refuses (call value : ℕ) (buf after : List ℕ) (a : Answer) : Type 0 where
  pub unknown : (a.number ≡ unknown_call) ↔ (described call ≡ unknown)
  pub room : (a.number ≡ no_room) ↔ ((form : Form) × (described call ≡ known form) × (length buf < needed form value))
  pub accepted : (a.number ≡ 0) ↔ ((form : Form) × (described call ≡ known form) × (needed form value ≤ length buf))
  pub kept : (a.number ≡ 0 → ⊥) → after ≡ buf

abbrev pub Refusals : Type 0
Refusals =
    (call value : ℕ) (buf after : List ℕ) (r : Converted) → Converts call value buf r after → Refuses call value buf after (converted_answer r)

-- what offset, need and free are: of an accepted call, of No room, and of an unknown call
pub record Tells (call value : ℕ) (room : ℕ) (a : Answer) : Type 0 where
  pub accepted : (form : Form) → described call ≡ known form → needed form value ≤ room
      → a ≡ record { number = 0; counted = in_text; place = length (string form value); need = needed form value; free = room - length (string form value) }
  pub no_room : (form : Form) → described call ≡ known form → room < needed form value
      → a ≡ record { number = no_room; counted = in_text; place = 0; need = needed form value; free = room }
  pub unknown : described call ≡ unknown → a ≡ refusal unknown_call in_text 0 room

abbrev pub Exact : Type 0
Exact = (call value : ℕ) (buf after : List ℕ) (r : Converted) → Converts call value buf r after → Tells call value (length buf) (converted_answer r)

-- a zero byte counts as free: offset and free make up the room
abbrev pub OffsetAndFree : Type 0
OffsetAndFree =
    (call value : ℕ) (buf after : List ℕ) (r : Converted) → Converts call value buf r after → (converted_answer r).number ≡ 0
    → (converted_answer r).place + (converted_answer r).free ≡ length buf

-- Demand 2: an accepted call leaves its string, a zero byte if it has one, and the bytes behind it
abbrev pub Bytes : Type 0
Bytes =
    (call value : ℕ) (form : Form) (buf after : List ℕ) (r : Converted)
    → described call ≡ known form → Converts call value buf r after → (converted_answer r).number ≡ 0
    → after ≡ string form value ++ (terminator form.terminated ++ drop (needed form value) buf)

-- bit 17, that of the X form, makes no difference
abbrev pub XForm : Type 0
XForm =
    (call value : ℕ) (buf after after' : List ℕ) (r r' : Converted) → call / 131072 % 2 ≡ 0
    → Converts call value buf r after → Converts (call + 131072) value buf r' after' → (r ≡ r') × (after ≡ after')

-- the form of every call but &28 and its X form is terminated: `Bytes` has what that means
abbrev pub Terminated : Type 0
Terminated = (call : ℕ) (form : Form) → described call ≡ known form → (form.terminated ≡ false) ↔ (without_x call ≡ 0x28)

-- those two give the characters and their number: that is the offset and the need, free is the room less that, and the byte behind stays
pub record GivesAlone (characters buf after : List ℕ) (a : Answer) : Type 0 where
  pub accepted : length characters ≤ length buf
      → (a ≡ record { number = 0; counted = in_text; place = length characters; need = length characters; free = length buf - length characters })
      × (after ≡ characters ++ drop (length characters) buf)
  pub no_room : length buf < length characters
      → (a ≡ record { number = no_room; counted = in_text; place = 0; need = length characters; free = length buf }) × (after ≡ buf)

abbrev pub CharactersAlone : Type 0
CharactersAlone =
    (call value : ℕ) (buf after : List ℕ) (r : Converted) → without_x call ≡ 0x28 → Converts call value buf r after
    → GivesAlone (decimal_of value) buf after (converted_answer r)

-- &DC has the same characters, with a zero byte
abbrev pub SameCharacters : Type 0
SameCharacters =
    (call value : ℕ) → without_x call ≡ 0xDC
    → (form : Form) × (described call ≡ known form) × (form.terminated ≡ true) × (string form value ≡ decimal_of value)

-- Demand 2: a string without a sign or spaces is read, behind what tells its base, as the bits that the call uses, up to its end
pub record ReadAs (n end : ℕ) (r : Result Number Refused) : Type 0 where
  pub number : read_number r ≡ 0
  pub value : read_value r ≡ n
  pub place : read_place r ≡ end

abbrev pub ReadsBack : Type 0
ReadsBack =
    (call value : ℕ) (form : Form) (buf after : List ℕ) (r : Converted)
    → described call ≡ known form → form.signed ≡ false → form.spaced ≡ false
    → Converts call value buf r after → (converted_answer r).number ≡ 0
    → (whole : Bool) (reading : Result Number Refused) → Reads (lead form.base ++ take (converted_answer r).place after) whole no_limit reading
    → ReadAs (used form value) (length (lead form.base) + (converted_answer r).place) reading

-- Demand 3: under every larger room an answer other than No room stays the same, with the same bytes, its free up by exactly the
-- room added. When No room comes is `Refuses`' `room`
abbrev pub LargerRoom : Type 0
LargerRoom =
    (call value more : ℕ) (buf after buf' after' : List ℕ) (r r' : Converted) → length buf' ≡ length buf + more
    → Converts call value buf r after → Converts call value buf' r' after' → ((converted_answer r).number ≡ no_room → ⊥)
    → GrownWhole after buf' after' more (converted_answer r) (converted_answer r')

-- The second ask: with the room that No room carries, and with any larger one, the call is accepted
abbrev pub SecondAsk : Type 0
SecondAsk =
    (call value : ℕ) (buf after buf' after' : List ℕ) (r r' : Converted) → Converts call value buf r after
    → (converted_answer r).number ≡ no_room → (converted_answer r).need ≤ length buf' → Converts call value buf' r' after' → (converted_answer r').number ≡ 0
