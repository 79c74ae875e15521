-- What building an index answers, and what it leaves in the buffer.
use Rattle.std.specs.Prelude.{cond, List, [], ◌∷◌, ◌++◌, ℕ, ◌*◌, ◌-◌, ltb, length, drop, Result, Ok, Err}
use Rattle.paper.specs.Answers.{Answer, refusal, in_text, in_house}
use Rattle.paper.specs.Refusals.{refusal_number, no_room, bad_table, over_length}
use Rattle.paper.specs.declared.refusals.BadTable as Tables
use Rattle.variables.specs.Tables.{checked}
use Rattle.indexes.specs.Indexes.{index_of}
use Rattle.indexes.specs.declared.building.Built.{Built}
use Rattle.indexes.specs.declared.building.NotBuilt.{NotBuilt}
use Rattle.indexes.specs.declared.building.NotBuilt.TheVariants.{NoRoom, BadTable}

-- two bytes for each of so many records
abbrev pub need_for : ℕ → ℕ
need_for count = 2 * count

-- the table's check decides; then No room, with the room that is enough
abbrev pub built_over : Result ℕ Tables.BadTable → ℕ → Result Built NotBuilt
built_over (Err bad) room = Err (BadTable bad room)
built_over (Ok count) room =
    cond (ltb room (need_for count)) (Err (NoRoom (need_for count) room)) (Ok (record { need = need_for count; free = room - need_for count }))

unfoldable pub built : List ℕ → ℕ → Result Built NotBuilt
built table room = built_over (checked table) room

-- the index at the start and the bytes behind it kept, or, where it is refused, nothing changed
abbrev pub laid_by : Result Built NotBuilt → List ℕ → List ℕ → List ℕ
laid_by (Err why) index out = out
laid_by (Ok built) index out = index ++ drop built.need out

unfoldable pub index_after : List ℕ → List ℕ → List ℕ
index_after table out = laid_by (built table (length out)) (index_of table) out

-- the paper's numbers of an answer
abbrev pub built_answer : Result Built NotBuilt → Answer
built_answer (Err (BadTable bad free)) = refusal (refusal_number bad.why) in_house bad.at.0 free
built_answer (Err (NoRoom need free)) = record { number = no_room; counted = in_text; place = 0; need = need; free = free }
built_answer (Ok built) = record { number = 0; counted = in_text; place = 0; need = built.need; free = built.free }

-- the numbers that an answer can have, in the order in which the refusals are looked for
abbrev pub build_numbers : List ℕ
build_numbers = 0 ∷ over_length ∷ bad_table ∷ no_room ∷ []
