-- Conversions of dates: what is answered, and what is left in the buffer.
use Rattle.std.specs.Prelude.{Bool, true, cond, not, ◌||◌, List, [], ◌∷◌, ℕ, ◌+◌, ◌*◌, eqb, length}
use Rattle.paper.specs.Answers.{Answer, refusal, in_text}
use Rattle.paper.specs.Layings.{laying, laid_in}
use Rattle.paper.specs.Refusals.{over_length, too_long, bad_field}
use Rattle.calendar.specs.Moments.{moment_at}
use Rattle.dates.specs.Formats.{layout_of, string, Fields, good, bad, fields_of}

-- the number that bytes stand for, the lowest first
abbrev pub number : List ℕ → ℕ
number [] = 0
number (b ∷ bs) = b + 256 * number bs

-- a time has five bytes, and a format no more than a text
abbrev pub unfit : List ℕ → List ℕ → Bool
unfit time format = too_long format || not (eqb (length time) 5)

-- the string of a time, by a format
abbrev pub dated : List ℕ → List ℕ → List ℕ
dated time format = string (moment_at (number time)) (layout_of format)

-- a bad field is refused at its percent sign; where all are good, the string is laid with a zero byte behind it
abbrev pub answer_by : Fields → List ℕ → ℕ → Answer
answer_by good string room = laying string true room
answer_by (bad at) string room = refusal bad_field in_text at room

abbrev pub buffer_by : Fields → List ℕ → List ℕ → List ℕ
buffer_by good string buf = laid_in string true buf
buffer_by (bad at) string buf = buf

-- what is answered, in the paper's numbers
unfoldable pub date_answer : List ℕ → List ℕ → ℕ → Answer
date_answer time format room =
    let answer = answer_by (fields_of (layout_of format)) (dated time format) room in
    cond (unfit time format) (refusal over_length in_text 0 room) answer

-- what the buffer then holds
unfoldable pub date_buffer : List ℕ → List ℕ → List ℕ → List ℕ
date_buffer time format buf =
    let after = buffer_by (fields_of (layout_of format)) (dated time format) buf in
    cond (unfit time format) buf after
