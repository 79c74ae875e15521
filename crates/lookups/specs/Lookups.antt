-- What a look-up in two tables answers, with or without an index beside the house's.
use Rattle.std.specs.Prelude.{Bool, true, false, List, [], ◌∷◌, ℕ, Option, Some, None, Result, Ok, Err}
use Rattle.paper.specs.Answers.{in_text, in_index, counted_in}
use Rattle.paper.specs.Refusals.{refusal_number, unknown_name, bad_table, over_length, bad_index}
use Rattle.paper.specs.declared.refusals.BadTableOf.{BadTableOf}
use Rattle.records.specs.Kinds.{kind_number, variable_at}
use Rattle.records.specs.declared.Variable.{Variable}
use Rattle.variables.specs.Holdings.{held_by, Holding, nowhere, held, sought_in_both, part_of}
use Rattle.variables.specs.Judgements.{judged}
use Rattle.indexes.specs.Indexes.{Given, fits}
use Rattle.lookups.specs.declared.NotGood.{NotGood}
use Rattle.lookups.specs.declared.NotGood.TheVariants.{Table, Index}

-- what a look-up answers: the variable that a name means, if any, where nothing is refused
abbrev pub Found : Type 0
Found = Result (Option Variable) NotGood

abbrev pub found_as : List ℕ → List ℕ → Holding → Option Variable
found_as farm house nowhere = None
found_as farm house (held holder e) = Some (variable_at holder (held_by holder farm house) e)

-- what was found of the tables decides; then whether the index fits
abbrev pub found_by : List ℕ → List ℕ → List ℕ → Result ℕ BadTableOf → Bool → Found
found_by farm house name (Err bad) fit = Err (Table bad)
found_by farm house name (Ok count) false = Err Index
found_by farm house name (Ok count) true = Ok (found_as farm house (sought_in_both farm house name))

-- a look-up in any bytes: tables that are not good are refused first, then an index that does not fit
unfoldable pub looked_up : List ℕ → List ℕ → Given → List ℕ → Found
looked_up farm house given name = found_by farm house name (judged farm house) (fits given house)

-- the part that a look-up hands back: that of the value, or an empty one
abbrev pub value_part : List ℕ → List ℕ → Found → List ℕ
value_part farm house (Ok (Some v)) = part_of farm house v
value_part farm house (Ok None) = []
value_part farm house (Err (Table bad)) = []
value_part farm house (Err Index) = []

-- the paper's numbers of a look-up: the refusal's number, 0 where the name is known; what the place is counted in; the record's
-- place; the kind
abbrev pub found_number : Found → ℕ
found_number (Ok (Some v)) = 0
found_number (Ok None) = unknown_name
found_number (Err (Table bad)) = refusal_number bad.why
found_number (Err Index) = bad_index

-- an unknown name's place is the name's start, and that of an index its own
abbrev pub found_counted : Found → ℕ
found_counted (Ok (Some v)) = counted_in v.holder
found_counted (Ok None) = in_text
found_counted (Err (Table bad)) = counted_in bad.holder
found_counted (Err Index) = in_index

abbrev pub found_place : Found → ℕ
found_place (Ok (Some v)) = v.at.0
found_place (Ok None) = 0
found_place (Err (Table bad)) = bad.at.0
found_place (Err Index) = 0

abbrev pub found_kind : Found → ℕ
found_kind (Ok (Some v)) = kind_number v.kind
found_kind (Ok None) = 0
found_kind (Err (Table bad)) = 0
found_kind (Err Index) = 0

-- where the value starts in the table that holds it, and its length
abbrev pub found_start : Found → ℕ
found_start (Ok (Some v)) = v.start
found_start (Ok None) = 0
found_start (Err (Table bad)) = 0
found_start (Err Index) = 0

abbrev pub found_length : Found → ℕ
found_length (Ok (Some v)) = v.length
found_length (Ok None) = 0
found_length (Err (Table bad)) = 0
found_length (Err Index) = 0

-- the numbers that an answer can have, in the order in which the refusals are looked for
abbrev pub look_up_numbers : List ℕ
look_up_numbers = 0 ∷ over_length ∷ bad_table ∷ bad_index ∷ unknown_name ∷ []
