-- What a record's kind and value stand for, and a record as the code hands it out.
use Rattle.std.specs.Prelude.{cond, List, ℕ, ◌+◌, ◌*◌, eqb, get_or}
use Rattle.paper.specs.declared.Holder.{Holder}
use Rattle.records.specs.Records.{string_kind, integer_kind, macro_kind, value_start, value_length, Entry}
use Rattle.records.specs.declared.Variable.{Variable}
use Rattle.records.specs.declared.kinds.Kind.{Kind}
use Rattle.records.specs.declared.kinds.Kind.TheVariants.{Text, Integer, Macro}

-- kind 0 is a string, 1 an integer, 2 a macro; a good table has no other
abbrev pub kind_of : ℕ → Kind
kind_of kind = cond (eqb kind string_kind) Text (cond (eqb kind integer_kind) Integer Macro)

abbrev pub kind_number : Kind → ℕ
kind_number Text = string_kind
kind_number Integer = integer_kind
kind_number Macro = macro_kind

-- an integer's value: four bytes, the lowest first, as a 32-bit pattern
abbrev pub pattern : List ℕ → ℕ
pattern bytes = get_or bytes 0 0 + 256 * get_or bytes 1 0 + 65536 * get_or bytes 2 0 + 16777216 * get_or bytes 3 0

-- a record as the code hands it out: its place, the table that holds it, its kind, and where its value lies there
abbrev pub variable_at : Holder → List ℕ → Entry → Variable
variable_at holder table e =
    record {
      at = record { 0 = e.place };
      holder = holder;
      kind = kind_of e.kind;
      start = value_start table e.place;
      length = value_length table e.place;
    }
