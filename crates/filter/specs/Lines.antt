-- The line of a refusal.
use Rattle.std.specs.Prelude.{false, List, [], ◌∷◌, ◌++◌, ℕ}
use Rattle.forms.specs.Digits.{digits, digit_count}

-- a number in decimal, with as many digits as it has
unfoldable pub decimal : ℕ → List ℕ
decimal n = digits 10 false (digit_count 10 n) n

-- "refused "
abbrev pub refused : List ℕ
refused = 114 ∷ 101 ∷ 102 ∷ 117 ∷ 115 ∷ 101 ∷ 100 ∷ 32 ∷ []

-- " at "
abbrev pub at : List ℕ
at = 32 ∷ 97 ∷ 116 ∷ 32 ∷ []

abbrev pub line_end : List ℕ
line_end = 10 ∷ []

unfoldable pub refusal_line : ℕ → ℕ → List ℕ
refusal_line number place = refused ++ decimal number ++ at ++ decimal place ++ line_end
