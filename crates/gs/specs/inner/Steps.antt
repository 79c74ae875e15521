-- How far a reference and a text come, what a reference stands for, and why a text is not read at all.
use Rattle.std.specs.Prelude.{◌≡◌, List, ◌++◌, ℕ, ◌+◌, ◌*◌, ◌≤◌, length, Result, Ok, Err}
use Rattle.std.proofs.lemmas.List.Edits.{sets}
use Rattle.paper.specs.Refusals.{refusal_number}
use Rattle.paper.specs.declared.TextPlace.{TextPlace}
use Rattle.paper.specs.declared.refusals.Refused.{Refused}
use Rattle.paper.specs.Traces.{Trace, faults, gives, asks, spends, bytes, finished, refused, run}
use Rattle.paper.specs.declared.faults.Fault.TheVariants as Faults
use Rattle.forms.specs.Calls.{decimal_of}
use Rattle.records.specs.Kinds.{pattern}
use Rattle.variables.specs.Holdings.{part_of}
use Rattle.gs.specs.Readings.{Expand, gives_all}
use Rattle.references.specs.declared.Referred.{Referred}
use Rattle.references.specs.declared.Referred.TheVariants.{Number, CodeOver255, TooBig, Unknown, Text, Integer, Macro}
use Rattle.lookups.specs.declared.NotGood.{NotGood}
use Rattle.lookups.specs.declared.NotGood.TheVariants.{Table, Index}
use Rattle.gs.specs.declared.NotTranslated.{NotTranslated}
use Rattle.gs.specs.declared.NotTranslated.TheVariants.{BadTable, BadIndex}
use Rattle.gs.specs.declared.steps.Carried.{Carried}
use Rattle.gs.specs.declared.steps.Expanded.{Expanded}

-- bytes laid into a buffer at a place, where they fit; what else it then holds is nobody's concern
pub record Laid (out : List ℕ) (to : ℕ) (given after : List ℕ) : Type 0 where
  pub long : length after ≡ length out
  pub fits : to + length given ≤ length out → after ≡ sets out to given

-- a piece of a reading, in front of any rest, that a run passes with look-ups left, having given bytes
pub record Passes (piece : Trace → Trace) (left left' : ℕ) (given : List ℕ) : Type 0 where
  pub runs : (rest : Trace) → run (piece rest) left ≡ run rest left'
  pub gives : (rest : Trace) → bytes (piece rest) ≡ given ++ bytes rest
  -- a look-up gives at most 255 bytes, and a number one without it
  pub small : length given + 255 * left' ≤ 255 * left + 1

-- how far a reference came
pub data Came (piece : Trace → Trace) (left to : ℕ) (out after : List ℕ) : Result Carried Refused → Type 0 where
  came_going : (left' : ℕ) (given : List ℕ) → Passes piece left left' given → Laid out to given after
      → Came piece left to out after (Ok (record { to = to + length given; left = left' }))
  came_refused : (r : Refused) → length after ≡ length out → ((rest : Trace) → run (piece rest) left ≡ refused (refusal_number r.why) r.at.0)
      → Came piece left to out after (Err r)

-- how far a whole text of a length came
pub data Read (trace : Trace) (size left to : ℕ) (out after : List ℕ) : Result Expanded Refused → Type 0 where
  read_ended : (end : TextPlace) (left' : ℕ) → run trace left ≡ finished end.0 left' → length (bytes trace) + 255 * left' ≤ 255 * left + size
      → Laid out to (bytes trace) after
      → Read trace size left to out after (Ok (record { end = end; carried = record { to = to + length (bytes trace); left = left' } }))
  read_refused : (r : Refused) → length after ≡ length out → run trace left ≡ refused (refusal_number r.why) r.at.0
      → Read trace size left to out after (Err r)

-- the piece of a reading that a reference makes
unfoldable pub piece_of : List ℕ → List ℕ → Expand → Referred → List ℕ → ℕ → Trace → Trace
piece_of farm house expand (Number byte) name place rest = gives byte rest
piece_of farm house expand CodeOver255 name place rest = faults Faults.CodeOver255 place
piece_of farm house expand TooBig name place rest = faults Faults.TooBig place
piece_of farm house expand Unknown name place rest = asks name (faults Faults.UnknownName place)
piece_of farm house expand (Text v) name place rest = asks name (spends place (gives_all (part_of farm house v) rest))
piece_of farm house expand (Integer v) name place rest = asks name (spends place (gives_all (decimal_of (pattern (part_of farm house v))) rest))
piece_of farm house expand (Macro v) name place rest = asks name (expand name place (part_of farm house v) rest)

-- how long the value of a reference is
abbrev pub length_in : Referred → ℕ
length_in (Number byte) = 0
length_in CodeOver255 = 0
length_in TooBig = 0
length_in Unknown = 0
length_in (Text v) = v.length
length_in (Integer v) = v.length
length_in (Macro v) = v.length

-- tables or an index that are not good, as a translation tells it in a room
abbrev pub not_good : NotGood → ℕ → NotTranslated
not_good (Table bad) room = BadTable bad room
not_good Index room = BadIndex room
