-- Conversions: what a call answers, and what it leaves in the buffer.
use Rattle.std.specs.Prelude.{List, ℕ}
use Rattle.paper.specs.Answers.{Answer, refusal, in_text}
use Rattle.paper.specs.Layings.{laying, laid_in}
use Rattle.paper.specs.Refusals.{unknown_call}
use Rattle.forms.specs.Strings.{string}
use Rattle.forms.specs.Calls.{Described, unknown, known, described}

-- an unknown call is refused; a known one lays its string
abbrev pub answer_in : Described → ℕ → ℕ → Answer
answer_in unknown value room = refusal unknown_call in_text 0 room
answer_in (known form) value room = laying (string form value) form.terminated room

abbrev pub buffer_in : Described → ℕ → List ℕ → List ℕ
buffer_in unknown value buf = buf
buffer_in (known form) value buf = laid_in (string form value) form.terminated buf

-- what a call answers to a value and a room, in the paper's numbers
unfoldable pub answer_of : ℕ → ℕ → ℕ → Answer
answer_of call value room = answer_in (described call) value room

-- what a call leaves in the buffer
unfoldable pub buffer_of : ℕ → ℕ → List ℕ → List ℕ
buffer_of call value buf = buffer_in (described call) value buf
