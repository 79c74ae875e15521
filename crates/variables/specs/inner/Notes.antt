-- Notes of the keys that lines have: a set of their remainders by 2,048. A line's key is its remainder by 32,768, so the line's own
-- remainder by 2,048 is its key's.
use Rattle.std.specs.Prelude.{Bool, true, List, ◌≡◌, ℕ, ◌%◌, ◌<◌, length, get_or}
use Rattle.paper.specs.declared.bits.Bits.{Bits}
use Rattle.paper.specs.inner.Bits.{holds}
use Rattle.records.specs.Records.{name_at}
use Rattle.records.specs.inner.Keys.{key_of}
use Rattle.variables.specs.inner.Keys.{LinesBefore}

abbrev pub noted : Bits 64 → ℕ → Bool
noted notes line = holds notes.words (line % 2048)

-- the first lines of some keys, so many, are noted
pub record AllNoted (notes : Bits 64) (keys : List ℕ) (count : ℕ) : Type 0 where
  pub each : (k : ℕ) → k < count → noted notes (get_or keys k 0) ≡ true

-- what a check knows of a record's line and of the lines before it
pub record Earlier (table : List ℕ) (place : ℕ) (keys : List ℕ) (notes : Bits 64) (line : ℕ) : Type 0 where
  pub own : LinesBefore table place keys
  pub all_noted : AllNoted notes keys (length keys)
  pub key : line % 32768 ≡ key_of (name_at table place)
