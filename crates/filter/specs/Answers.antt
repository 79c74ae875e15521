-- What the program writes for what it reads.
use Rattle.std.specs.Prelude.{◌≡◌, List, [], ◌++◌, ℕ, ◌≤◌, length, take, drop, Ok, Err}
use Rattle.paper.specs.Refusals.{bad_index, longest, refusal_number}
use Rattle.paper.specs.Traces.{bytes}
use Rattle.indexes.specs.Indexes.{no_index}
use Rattle.gs.specs.Translations.{Translation, reading_of, translated}
use Rattle.gs.specs.declared.NotTranslated.{NotTranslated}
use Rattle.gs.specs.declared.NotTranslated.TheVariants.{Refused, BadTable, BadIndex}
use Rattle.filter.specs.Lines.{refusal_line}

-- the line of a refusal
abbrev pub line_of : NotTranslated → List ℕ
line_of (Refused why at need free) = refusal_line (refusal_number why) at.0
line_of (BadTable bad free) = refusal_line (refusal_number bad.why) bad.at.0
line_of (BadIndex free) = refusal_line bad_index 0

-- the bytes that were given, or that line
abbrev pub shown : Translation → List ℕ → List ℕ
shown (Ok t) given = given
shown (Err r) given = line_of r

-- a text with two empty tables, no index, no flags, allowance 0 and room 65,535
unfoldable pub answer_to : List ℕ → List ℕ
answer_to text = shown (translated text [] [] no_index 0 0 longest) (bytes (reading_of text [] [] 0))

-- a buffer holds the answer to the text that stands at the start of another, and behind it what it held before
abbrev pub Answered : List ℕ → ℕ → List ℕ → List ℕ → ℕ → Type 0
Answered input text before after answer =
    (text ≤ length input)
    × (answer ≡ length (answer_to (take text input)))
    × (after ≡ answer_to (take text input) ++ drop answer before)
