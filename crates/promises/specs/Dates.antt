-- What `convert_date` promises, over what its contract allows, in the paper's numbers of an answer; and of the calendar that it goes by.
use Rattle.std.specs.Prelude.{◌≡◌, true, not, ◌&&◌, ◌||◌, ◌↔◌, ℕ, ◌+◌, ◌-◌, ◌%◌, ◌≤◌, ◌<◌, eqb, length, take, drop, get_or}
use mathlib.Core.List.{List, ◌∷◌, ◌++◌, Memᴰ}
use Rattle.paper.specs.Answers.{in_text, Answer, refusal, GrownWhole}
use Rattle.paper.specs.Layings.{room_for, Converted, converted_answer}
use Rattle.paper.specs.Refusals.{no_room, over_length, bad_field, longest}
use Rattle.calendar.specs.Counting.{leap}
use Rattle.calendar.specs.Dates.{Date, IsDate, day_number, date_of}
use Rattle.calendar.specs.Moments.{day_of}
use Rattle.dates.specs.Formats.{piece_at, layout_of, Fields, good, bad, fields_of}
use Rattle.dates.specs.Conversions.{number, dated}
use Rattle.dates.specs.declared.pieces.Piece.TheVariants.{Bad}
use Rattle.promises.specs.Accepted.{is_converted}
use Rattle.promises.specs.Allowed.{Dates}

-- one answer and one content of the buffer
abbrev pub OneAnswer : Type 0
OneAnswer =
    (time format buf after after' : List ℕ) (r r' : Converted)
    → Dates time format buf r after → Dates time format buf r' after' → (r ≡ r') × (after ≡ after')

-- the number is 0 exactly in the case of a string
abbrev pub Accepts : Type 0
Accepts =
    (time format buf after : List ℕ) (r : Converted) → Dates time format buf r after → ((converted_answer r).number ≡ 0) ↔ (is_converted r ≡ true)

-- a time of five bytes, and a format of 65,535 at most
abbrev pub Fit : List ℕ → List ℕ → Type 0
Fit time format = (length time ≡ 5) × (length format ≤ longest)

-- whether a format's fields are good
abbrev pub fields_in : List ℕ → Fields
fields_in format = fields_of (layout_of format)

-- the room that the string of a time takes, with its zero byte
abbrev pub needed : List ℕ → List ℕ → ℕ
needed time format = room_for (dated time format) true

-- Demand 1: 18 exactly where the format is too long or the time has not five bytes; else 19 exactly where a field is bad, at its place;
-- else No room exactly where the need is over the room; else accepted; and a refusal changes no byte
pub record Refuses (time format buf after : List ℕ) (a : Answer) : Type 0 where
  pub unfit : (a.number ≡ over_length) ↔ (Fit time format → ⊥)
  pub field : (at : ℕ) → ((a.number ≡ bad_field) × (a.place ≡ at)) ↔ (Fit time format × (fields_in format ≡ bad at))
  pub room : (a.number ≡ no_room) ↔ (Fit time format × (fields_in format ≡ good) × (length buf < needed time format))
  pub accepted : (a.number ≡ 0) ↔ (Fit time format × (fields_in format ≡ good) × (needed time format ≤ length buf))
  pub kept : (a.number ≡ 0 → ⊥) → after ≡ buf

abbrev pub Refusals : Type 0
Refusals =
    (time format buf after : List ℕ) (r : Converted) → Dates time format buf r after → Refuses time format buf after (converted_answer r)

-- what number, place, need and free are: of an accepted time, of No room, of a bad field, and of 18
pub record Tells (time format : List ℕ) (room : ℕ) (a : Answer) : Type 0 where
  pub accepted : Fit time format → fields_in format ≡ good → needed time format ≤ room
      → a ≡ record { number = 0; counted = in_text; place = length (dated time format); need = needed time format; free = room - length (dated time format) }
  pub no_room : Fit time format → fields_in format ≡ good → room < needed time format
      → a ≡ record { number = no_room; counted = in_text; place = 0; need = needed time format; free = room }
  pub field : (at : ℕ) → Fit time format → fields_in format ≡ bad at → a ≡ refusal bad_field in_text at room
  pub unfit : (Fit time format → ⊥) → a ≡ refusal over_length in_text 0 room

abbrev pub Exact : Type 0
Exact = (time format buf after : List ℕ) (r : Converted) → Dates time format buf r after → Tells time format (length buf) (converted_answer r)

-- the zero byte counts as free: offset and free make up the room
abbrev pub OffsetAndFree : Type 0
OffsetAndFree =
    (time format buf after : List ℕ) (r : Converted) → Dates time format buf r after → (converted_answer r).number ≡ 0
    → (converted_answer r).place + (converted_answer r).free ≡ length buf

-- 19 is given inside the format, at a percent sign with no field behind it; and it is the leftmost one: the format cut off there has good
-- fields only
pub record FirstBad (format : List ℕ) (at : ℕ) : Type 0 where
  pub inside : at < length format
  pub percent : get_or format at 0 ≡ 37
  pub no_field : piece_at format at ≡ Bad
  pub leftmost : fields_in (take at format) ≡ good

abbrev pub BadField : Type 0
BadField =
    (time format buf after : List ℕ) (r : Converted) → Dates time format buf r after → (converted_answer r).number ≡ bad_field
    → FirstBad format (converted_answer r).place

-- Demand 2: an accepted time leaves its string, the zero byte and the bytes behind it
abbrev pub Bytes : Type 0
Bytes =
    (time format buf after : List ℕ) (r : Converted) → Dates time format buf r after → (converted_answer r).number ≡ 0
    → after ≡ dated time format ++ (0 ∷ drop (needed time format) buf)

-- Demand 3: under every larger room an answer other than No room stays the same, with the same bytes, its free up by exactly the
-- room added. When No room comes is `Refuses`' `room`
abbrev pub LargerRoom : Type 0
LargerRoom =
    (time format : List ℕ) (more : ℕ) (buf after buf' after' : List ℕ) (r r' : Converted) → length buf' ≡ length buf + more
    → Dates time format buf r after → Dates time format buf' r' after' → ((converted_answer r).number ≡ no_room → ⊥)
    → GrownWhole after buf' after' more (converted_answer r) (converted_answer r')

-- The second ask: with the room that No room carries, and with any larger one, the time is accepted
abbrev pub SecondAsk : Type 0
SecondAsk =
    (time format buf after buf' after' : List ℕ) (r r' : Converted) → Dates time format buf r after
    → (converted_answer r).number ≡ no_room → (converted_answer r).need ≤ length buf' → Dates time format buf' r' after' → (converted_answer r').number ≡ 0

-- The need goes by the format alone, so that one ask serves a whole column: where a time is answered neither 18 nor 19, every other time of
-- five bytes has the same need, and is accepted exactly where that has room
abbrev pub NeedByFormat : Type 0
NeedByFormat =
    (time time' format buf after buf' after' : List ℕ) (r r' : Converted) → Dates time format buf r after → Dates time' format buf' r' after'
    → ((converted_answer r).number ≡ over_length → ⊥) → ((converted_answer r).number ≡ bad_field → ⊥) → length time' ≡ 5
    → ((converted_answer r').need ≡ (converted_answer r).need) × (((converted_answer r').number ≡ 0) ↔ ((converted_answer r).need ≤ length buf'))

-- the date of a day's number is a date that there is, has that number, and is the only one that has it
pub record OneDate (day : ℕ) : Type 0 where
  pub there_is : IsDate (date_of day)
  pub numbered : day_number (date_of day) ≡ day
  pub only : (d : Date) → IsDate d → day_number d ≡ day → d ≡ date_of day

-- every time of five bytes falls on a day before day 127,259, and that day has one date
abbrev pub OfADay : Type 0
OfADay =
    (time : List ℕ) → length time ≡ 5 → ((b : ℕ) → Memᴰ b time → b < 256)
    → (day_of (number time) < 127259) × OneDate (day_of (number time))

-- a year has a 29 February as the Gregorian calendar has it: every fourth year, but of the hundreds only every fourth
abbrev pub LeapYears : Type 0
LeapYears =
    (year : ℕ) → 1900 ≤ year → year ≤ 2248 → leap year ≡ (eqb (year % 4) 0 && (not (eqb (year % 100) 0) || eqb (year % 400) 0))
