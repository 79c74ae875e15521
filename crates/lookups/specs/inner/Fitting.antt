-- A table and an index beside it, judged together: marks of the places of records whose shapes are good, and entries that rise.
use Rattle.std.specs.Prelude.{Bool, true, false, cond, ◌||◌, List, [], ◌∷◌, ◌≡◌, ℕ, zero, suc, ◌+◌, ◌<◌, eqb, leb, length, Option, Some, None}
use Rattle.paper.specs.declared.bits.Bits.{Bits}
use Rattle.paper.specs.inner.Bits.{holds}
use Rattle.records.specs.Records.{Entry, next_place, shaped, comes_before}
use Rattle.variables.specs.Tables.{most}
use Rattle.indexes.specs.inner.Halving.{place_in, name_in}

-- a place is among the marks
abbrev pub marked : Bits 2048 → ℕ → Bool
marked marks place = holds marks.words place

-- one of some records starts at a place
abbrev pub starts_one : List Entry → ℕ → Bool
starts_one [] place = false
starts_one (e ∷ es) place = eqb place e.place || starts_one es place

-- how many records lie one behind the other up to the slice's end, by their shapes alone; none where one has no shape, or where there are
-- more than 256
unfoldable pub shaped_from : ℕ → ℕ → List ℕ → ℕ → Option ℕ
shaped_from zero count table place = cond (leb (length table) place) (Some count) None
shaped_from (suc more) count table place =
    let rest = shaped_from more (suc count) table (next_place table place) in
    cond (leb (length table) place) (Some count) (cond (shaped table place) rest None)

abbrev pub shaped_in : List ℕ → Option ℕ
shaped_in table = shaped_from most 0 table 0

-- each of so many entries is a marked place, and each name comes before the next
pub record Rises (table : List ℕ) (marks : Bits 2048) (index : List ℕ) (count : ℕ) : Type 0 where
  pub places : (k : ℕ) → k < count → marked marks (place_in index k) ≡ true
  pub rising : (k : ℕ) → k + 1 < count → comes_before (name_in table index k) (name_in table index (k + 1)) ≡ true
