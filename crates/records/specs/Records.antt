-- A record of a table: its format, its parts by the place where its mark starts, and when it has a record's shape; equal names, and the
-- order of names.
use Rattle.std.specs.Prelude.{Bool, true, false, cond, not, ◌&&◌, ◌||◌, List, [], ◌∷◌, ◌++◌, map, ℕ, ◌+◌, leb, ltb, eqb, length, get_or, take, drop}
use Rattle.paper.specs.Bytes.{name_byte}

abbrev pub string_kind : ℕ
string_kind = 0

abbrev pub integer_kind : ℕ
integer_kind = 1

abbrev pub macro_kind : ℕ
macro_kind = 2

-- a record: the place where its mark starts, and what it holds
pub record Entry : Type 0 where
  pub place : ℕ
  pub kind : ℕ
  pub name : List ℕ
  pub value : List ℕ

-- a record's format: the two bytes of the mark, the kind, the name's length, the value's length, the name, the value
abbrev pub record_bytes : Entry → List ℕ
record_bytes e = 86 ∷ 82 ∷ e.kind ∷ length e.name ∷ length e.value ∷ (e.name ++ e.value)

-- the same fields, read by their offsets from a place of any bytes
abbrev pub kind_at : List ℕ → ℕ → ℕ
kind_at table place = get_or table (place + 2) 0

abbrev pub name_length : List ℕ → ℕ → ℕ
name_length table place = get_or table (place + 3) 0

abbrev pub value_length : List ℕ → ℕ → ℕ
value_length table place = get_or table (place + 4) 0

abbrev pub value_start : List ℕ → ℕ → ℕ
value_start table place = place + 5 + name_length table place

abbrev pub next_place : List ℕ → ℕ → ℕ
next_place table place = value_start table place + value_length table place

unfoldable pub name_at : List ℕ → ℕ → List ℕ
name_at table place = take (name_length table place) (drop (place + 5) table)

unfoldable pub value_at : List ℕ → ℕ → List ℕ
value_at table place = take (value_length table place) (drop (value_start table place) table)

unfoldable pub entry_at : List ℕ → ℕ → Entry
entry_at table place = record { place = place; kind = kind_at table place; name = name_at table place; value = value_at table place }

abbrev pub all_name_bytes : List ℕ → Bool
all_name_bytes [] = true
all_name_bytes (c ∷ cs) = name_byte c && all_name_bytes cs

-- the mark, and a kind that there is
unfoldable pub headed : List ℕ → ℕ → Bool
headed table place = eqb (get_or table place 0) 86 && (eqb (get_or table (place + 1) 0) 82 && leb (kind_at table place) macro_kind)

-- an integer has a value of 4 bytes
unfoldable pub fitting : ℕ → ℕ → Bool
fitting kind size = not (eqb kind integer_kind) || eqb size 4

-- a name of 1 to 32 bytes, a value that fits its kind, and all of it inside the slice
unfoldable pub sized : List ℕ → ℕ → Bool
sized table place =
    leb 1 (name_length table place)
    && (leb (name_length table place) 32
    && (fitting (kind_at table place) (value_length table place) && leb (next_place table place) (length table)))

abbrev pub shaped : List ℕ → ℕ → Bool
shaped table place = headed table place && (sized table place && all_name_bytes (name_at table place))

-- a letter A to Z as its small one
unfoldable pub small : ℕ → ℕ
small c = cond (leb 65 c && leb c 90) (c + 32) c

abbrev pub same_bytes : List ℕ → List ℕ → Bool
same_bytes [] [] = true
same_bytes [] (y ∷ ys) = false
same_bytes (x ∷ xs) [] = false
same_bytes (x ∷ xs) (y ∷ ys) = eqb x y && same_bytes xs ys

-- names are equal when they differ only in the case of A to Z
unfoldable pub same_name : List ℕ → List ℕ → Bool
same_name a b = same_bytes (map small a) (map small b)

abbrev pub less_bytes : List ℕ → List ℕ → Bool
less_bytes [] [] = false
less_bytes [] (y ∷ ys) = true
less_bytes (x ∷ xs) [] = false
less_bytes (x ∷ xs) (y ∷ ys) = ltb x y || (eqb x y && less_bytes xs ys)

-- names stand in the order of their bytes, with A to Z as a to z, a proper beginning first
unfoldable pub comes_before : List ℕ → List ℕ → Bool
comes_before a b = less_bytes (map small a) (map small b)
