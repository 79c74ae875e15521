-- A string laid at the start of a lent buffer, with or without a zero byte behind it: what is answered, and what the buffer then holds.
use Rattle.std.specs.Prelude.{Bool, cond, List, [], ◌∷◌, ◌++◌, ℕ, ◌+◌, ◌-◌, ltb, eqb, length, drop, Result, Ok, Err}
use Rattle.paper.specs.Answers.{Answer, in_text}
use Rattle.paper.specs.Refusals.{no_room, refusal_number, refusal_of}
use Rattle.paper.specs.declared.layings.Written.{Written}
use Rattle.paper.specs.declared.layings.NotWritten.{NotWritten}

-- what stands behind the characters: a zero byte, or nothing
abbrev pub terminator : Bool → List ℕ
terminator terminated = cond terminated (0 ∷ []) []

-- the room that so many characters take, with their zero byte if they have one
abbrev pub room_of : ℕ → Bool → ℕ
room_of characters terminated = characters + length (terminator terminated)

abbrev pub room_for : List ℕ → Bool → ℕ
room_for string terminated = room_of (length string) terminated

-- No room, with the room that is enough; or the offset behind the characters, the need, and what is free: a zero byte counts as free
unfoldable pub laying_of : ℕ → Bool → ℕ → Answer
laying_of characters terminated room =
    cond (ltb room (room_of characters terminated))
    (record { number = no_room; counted = in_text; place = 0; need = room_of characters terminated; free = room })
    (record { number = 0; counted = in_text; place = characters; need = room_of characters terminated; free = room - characters })

abbrev pub laying : List ℕ → Bool → ℕ → Answer
laying string terminated room = laying_of (length string) terminated room

-- the string at the start and the bytes behind it kept, or, where it has no room, nothing changed
unfoldable pub laid_in : List ℕ → Bool → List ℕ → List ℕ
laid_in string terminated buf =
    cond (ltb (length buf) (room_for string terminated))
    buf
    (string ++ (terminator terminated ++ drop (room_for string terminated) buf))

-- what a conversion answers in the code
abbrev pub Converted : Type 0
Converted = Result Written NotWritten

-- an answer as the code has it
abbrev pub converted_by : Answer → Converted
converted_by a =
    cond (eqb a.number 0)
    (Ok (record { offset = a.place; need = a.need; free = a.free }))
    (Err (record { why = refusal_of a.number; at = record { 0 = a.place }; need = a.need; free = a.free }))

-- the paper's numbers of an answer of the code
abbrev pub converted_answer : Converted → Answer
converted_answer (Ok w) = record { number = 0; counted = in_text; place = w.offset; need = w.need; free = w.free }
converted_answer (Err n) = record { number = refusal_number n.why; counted = in_text; place = n.at.0; need = n.need; free = n.free }
