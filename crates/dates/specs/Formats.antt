-- A format: its pieces from the left, and the string that they make of a moment.
use Rattle.std.specs.Prelude.{cond, Option, Some, None, List, [], ◌∷◌, ◌++◌, ℕ, zero, suc, ◌+◌, eqb, length, get_or}
use Rattle.calendar.specs.declared.Moment.{Moment}
use Rattle.dates.specs.Fields.{pair, field_named, shown}
use Rattle.dates.specs.declared.fields.Field.{Field}
use Rattle.dates.specs.declared.pieces.Piece.{Piece}
use Rattle.dates.specs.declared.pieces.Piece.TheVariants.{End, Copied, Percent, Shown, Bad}

-- a percent sign with a name of two characters behind it, which is a field's or none's
abbrev pub named : Option Field → Piece
named (Some field) = Shown field
named None = Bad

-- the two bytes behind a percent sign: another percent sign, or a name
abbrev pub behind_percent : ℕ → ℕ → Piece
behind_percent a b = cond (eqb a 37) Percent (named (field_named (pair a b)))

-- the piece at a place. Behind the slice's end stands a zero here, which ends a format as the slice's end does, and is in no name
unfoldable pub piece_at : List ℕ → ℕ → Piece
piece_at format at =
    let c = get_or format at 0 in
    let field = behind_percent (get_or format (at + 1) 0) (get_or format (at + 2) 0) in
    cond (eqb c 0) End (cond (eqb c 37) field (Copied c))

-- what a format says, which knows neither the time nor the room
pub data Layout : Type 0 where
  ended : Layout
  -- a byte that is copied
  copies : ℕ → Layout → Layout
  shows : Field → Layout → Layout
  -- the place of its percent sign
  bad_field_at : ℕ → Layout

-- a piece, and the layout behind it
abbrev pub laid_out : Piece → ℕ → (ℕ → Layout) → Layout
laid_out End at rest = ended
laid_out (Copied c) at rest = copies c (rest (at + 1))
laid_out Percent at rest = copies 37 (rest (at + 2))
laid_out (Shown field) at rest = shows field (rest (at + 3))
laid_out Bad at rest = bad_field_at at

-- the pieces from a place on, no more of them than a number
unfoldable pub layout_from : ℕ → List ℕ → ℕ → Layout
layout_from zero format at = ended
layout_from (suc more) format at = laid_out (piece_at format at) at (layout_from more format)

-- every piece is a byte at least
abbrev pub layout_of : List ℕ → Layout
layout_of format = layout_from (suc (length format)) format 0

-- the string of a moment
abbrev pub string : Moment → Layout → List ℕ
string m ended = []
string m (copies c rest) = c ∷ string m rest
string m (shows field rest) = shown field m ++ string m rest
string m (bad_field_at at) = []

-- whether all fields are good, or which is the first that is not
pub data Fields : Type 0 where
  good : Fields
  bad : ℕ → Fields

abbrev pub fields_of : Layout → Fields
fields_of ended = good
fields_of (copies c rest) = fields_of rest
fields_of (shows field rest) = fields_of rest
fields_of (bad_field_at at) = bad at
