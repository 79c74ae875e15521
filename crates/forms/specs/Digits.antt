-- The digits of a number: how many it has, and how they stand.
use Rattle.std.specs.Prelude.{Bool, cond, ◌&&◌, List, [], ◌∷◌, ◌++◌, ℕ, zero, suc, ◌+◌, ◌/◌, ◌%◌, ◌^◌, ltb, eqb}

-- a digit's byte: "0" to "9", then capitals
abbrev pub glyph : ℕ → ℕ
glyph d = cond (ltb d 10) (48 + d) (55 + d)

-- spaced: whether the last k digits are whole groups of three
abbrev pub gapped : Bool → ℕ → Bool
gapped spaced k = spaced && (ltb 0 k && eqb (k % 3) 0)

-- what stands before the last k digits: one space before whole groups
abbrev pub gap : Bool → ℕ → List ℕ
gap spaced k = cond (gapped spaced k) (32 ∷ []) []

-- the last k digits of n, the highest first
unfoldable pub digits : ℕ → Bool → ℕ → ℕ → List ℕ
digits base spaced zero n = []
digits base spaced (suc k) n = glyph (n / base ^ k % base) ∷ (gap spaced k ++ digits base spaced k n)

-- the first of k, k + 1, .. k + more that is enough digits for n, or the last of them
unfoldable pub enough : ℕ → ℕ → ℕ → ℕ → ℕ
enough base n zero k = k
enough base n (suc more) k = let rest = enough base n more (suc k) in cond (ltb n (base ^ k)) k rest

-- how many digits n has, zero having one
abbrev pub digit_count : ℕ → ℕ → ℕ
digit_count base n = enough base n n 1
