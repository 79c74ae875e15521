-- The keys of tables' records: a line for each, of its place, a mark of the table that holds it and a key of its name.
use Rattle.std.specs.Prelude.{Bool, cond, ◌&&◌, List, [], ◌∷◌, ◌++◌, map, ◌≡◌, ℕ, ◌+◌, ◌*◌, ◌/◌, ◌%◌, ◌<◌, ◌≤◌, eqb, ltb, length, get_or, drop, Option, Some, None, Result, Ok, Err}
use Rattle.paper.specs.declared.Holder.{Holder}
use Rattle.paper.specs.declared.Holder.TheVariants.{Farm, House}
use Rattle.records.specs.Records.{same_name, Entry, entry_at}
use Rattle.records.specs.Kinds.{variable_at}
use Rattle.records.specs.declared.Variable.{Variable}
use Rattle.records.specs.inner.Keys.{key_of}
use Rattle.paper.specs.Refusals.{too_long}
use Rattle.paper.specs.declared.refusals.BadTable.{BadTable}
use Rattle.variables.specs.Tables.{before, records_of, scan}
use Rattle.variables.specs.Holdings.{held_by, Holding, nowhere, held}

abbrev pub mark_of : Holder → ℕ
mark_of Farm = 32768
mark_of House = 0

abbrev pub line_of : Holder → Entry → ℕ
line_of holder e = 65536 * e.place + mark_of holder + key_of e.name

abbrev pub lines_of : Holder → List Entry → List ℕ
lines_of holder es = map (line_of holder) es

-- the keys of two good tables, the farm's lines first
abbrev pub keys_of : List ℕ → List ℕ → List ℕ
keys_of farm house = lines_of Farm (records_of farm) ++ lines_of House (records_of house)

-- these are two tables' keys: what a function asks that looks names up by them
abbrev pub Keys : List ℕ → List ℕ → List ℕ → Type 0
Keys farm house keys = keys ≡ keys_of farm house

-- these are the lines of the records of one table, whichever of the two it is, that start before a place
abbrev pub LinesBefore : List ℕ → ℕ → List ℕ → Type 0
LinesBefore table place keys = (holder : Holder) × (keys ≡ lines_of holder (before table place))

-- how far a check came
abbrev pub reach : List ℕ → Result ℕ BadTable → ℕ
reach table (Ok count) = length table
reach table (Err bad) = bad.at.0

-- the lines of the records that a check passed
abbrev pub passed_lines : Holder → List ℕ → Result ℕ BadTable → List ℕ
passed_lines holder table r = lines_of holder (before table (reach table r))

-- lines at the start of a lent array; what is behind them stays
abbrev pub laid_over : List ℕ → List ℕ → List ℕ
laid_over lines keys = lines ++ drop (length lines) keys

-- the lines behind the farm's, where all of those are passed
abbrev pub behind_farm : Result ℕ BadTable → List ℕ → List ℕ
behind_farm (Ok count) lines = lines
behind_farm (Err bad) lines = []

-- the lines of all records that the scans of two tables pass
abbrev pub both_lines : List ℕ → List ℕ → List ℕ
both_lines farm house = passed_lines Farm farm (scan farm) ++ behind_farm (scan farm) (passed_lines House house (scan house))

-- a table that is too long is not scanned
abbrev pub judged_lines : List ℕ → List ℕ → List ℕ
judged_lines farm house = cond (too_long farm) [] (cond (too_long house) [] (both_lines farm house))

-- the table that a line says, and the record there
abbrev pub holder_of : ℕ → Holder
holder_of line = cond (ltb (line % 65536) 32768) House Farm

unfoldable pub record_by : List ℕ → List ℕ → ℕ → Entry
record_by farm house line = entry_at (held_by (holder_of line) farm house) (line / 65536)

-- whether a line's record has a name
abbrev pub names : List ℕ → List ℕ → ℕ → List ℕ → Bool
names farm house line name = eqb (line % 32768) (key_of name) && same_name (record_by farm house line).name name

-- a name sought by keys, whatever their lines are: the first record that has it, if any
unfoldable pub sought_by : List ℕ → List ℕ → List ℕ → List ℕ → Holding
sought_by farm house [] name = nowhere
sought_by farm house (line ∷ lines) name =
    let rest = sought_by farm house lines name in
    cond (names farm house line name) (held (holder_of line) (record_by farm house line)) rest

-- none of the first lines, up to a place, has a key
pub record Without (key : ℕ) (keys : List ℕ) (stop : ℕ) : Type 0 where
  pub inside : stop ≤ length keys
  pub passes : (k : ℕ) → k < stop → get_or keys k 0 % 32768 ≡ key → ⊥

abbrev pub match_as : List ℕ → List ℕ → Holding → Option Variable
match_as farm house nowhere = None
match_as farm house (held holder e) = Some (variable_at holder (held_by holder farm house) e)
