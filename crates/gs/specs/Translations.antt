-- What a translation answers, and what it leaves in the buffer.
use Rattle.std.specs.Prelude.{Bool, true, false, cond, List, [], ◌∷◌, ◌++◌, ℕ, eqb, length, drop, Result, Ok, Err}
use Rattle.paper.specs.Answers.{Answer, refusal, in_text, in_index, counted_in}
use Rattle.paper.specs.Refusals.{no_room, too_big, bad_code, bad_string, bad_reference, unknown_name, too_deep, allowance_spent, bad_index, code_over_255, refusal_number, refusal_of}
use Rattle.paper.specs.declared.refusals.Refusal.{Refusal}
use Rattle.paper.specs.declared.refusals.Refusal.TheVariants.{OverLength}
use Rattle.paper.specs.Traces.{Trace, bytes, answer, allowed}
use Rattle.variables.specs.Tables.{check_numbers}
use Rattle.variables.specs.Names.{names_of}
use Rattle.variables.specs.Judgements.{Judgement, good, long_text, bad_table, judgement}
use Rattle.indexes.specs.Indexes.{Given, fits}
use Rattle.gs.specs.Readings.{read_at}
use Rattle.gs.specs.declared.Translated.{Translated}
use Rattle.gs.specs.declared.NotTranslated.{NotTranslated}
use Rattle.gs.specs.declared.NotTranslated.TheVariants.{Refused, BadTable, BadIndex}

-- the paper's reading of a text over two tables, the farm's and the house's, at depth 0
abbrev pub reading_of : List ℕ → List ℕ → List ℕ → ℕ → Trace
reading_of text farm house flags = read_at (names_of farm house) 0 text flags

-- what a translation answers: the text's end, the bytes written and the room left, or why there is none
abbrev pub Translation : Type 0
Translation = Result Translated NotTranslated

abbrev pub refused_at : Refusal → ℕ → ℕ → ℕ → Translation
refused_at why place need free = Err (Refused why (record { 0 = place }) need free)

-- an answer by the reading, as the code hands it out
abbrev pub translated_by : Answer → Translation
translated_by a =
    cond (eqb a.number 0)
    (Ok (record { end = record { 0 = a.place }; need = a.need; free = a.free }))
    (refused_at (refusal_of a.number) a.place a.need a.free)

-- what was found of the text and the tables decides; then whether the index fits; then as the reading meets them, 1 last
abbrev pub translated_over : Judgement → Bool → Trace → ℕ → ℕ → Translation
translated_over long_text fit trace allowance room = refused_at OverLength 0 0 room
translated_over (bad_table why holder place) fit trace allowance room = Err (BadTable (record { why = why; holder = holder; at = record { 0 = place } }) room)
translated_over good false trace allowance room = Err (BadIndex room)
translated_over good true trace allowance room = translated_by (answer trace (allowed allowance) room)

-- 18 for the text, 18 and 13 for the tables, 20 for the index, then the reading, which knows no index
unfoldable pub translated : List ℕ → List ℕ → List ℕ → Given → ℕ → ℕ → ℕ → Translation
translated text farm house given flags allowance room =
    translated_over (judgement text farm house) (fits given house) (reading_of text farm house flags) allowance room

abbrev pub left_by : Translation → List ℕ → List ℕ → List ℕ
left_by (Ok t) read out = read ++ drop t.need out
left_by (Err r) read out = out

-- the bytes given where accepted, and what is behind them; a refusal changes nothing
unfoldable pub out_after : List ℕ → List ℕ → List ℕ → Given → ℕ → ℕ → List ℕ → List ℕ
out_after text farm house given flags allowance out =
    left_by (translated text farm house given flags allowance (length out)) (bytes (reading_of text farm house flags)) out

-- the paper's numbers of an answer; a bad table's place is counted in that table, that of an index in the index
abbrev pub translated_answer : Translation → Answer
translated_answer (Ok t) = record { number = 0; counted = in_text; place = t.end.0; need = t.need; free = t.free }
translated_answer (Err (Refused why at need free)) = record { number = refusal_number why; counted = in_text; place = at.0; need = need; free = free }
translated_answer (Err (BadTable bad free)) = refusal (refusal_number bad.why) (counted_in bad.holder) bad.at.0 free
translated_answer (Err (BadIndex free)) = refusal bad_index in_index 0 free

-- the numbers that an answer can have: those of a table's check, that of an index, those that the reading meets, 1 last
abbrev pub met_numbers : List ℕ
met_numbers = bad_reference ∷ too_big ∷ code_over_255 ∷ unknown_name ∷ too_deep ∷ allowance_spent ∷ bad_code ∷ bad_string ∷ no_room ∷ []

abbrev pub translate_numbers : List ℕ
translate_numbers = check_numbers ++ (bad_index ∷ met_numbers)
