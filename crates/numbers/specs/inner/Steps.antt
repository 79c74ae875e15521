-- What inner functions give.
use Rattle.std.specs.Prelude.{Bool, cond, ◌&&◌, List, [], ◌∷◌, ◌++◌, ℕ, ◌+◌, ◌-◌, ◌/◌, eqb, length}
use Rattle.forms.specs.Digits.{digits, digit_count}
use Rattle.forms.specs.Strings.{radix, minus}
use Rattle.forms.specs.inner.Steps.{number_in}
use Rattle.forms.specs.declared.forms.Base.TheVariants.{Ten}
use Rattle.forms.specs.declared.forms.Width.{Width}
use Rattle.numbers.specs.declared.digits.Figures.{Figures}

-- the room that k digits take with their spaces
abbrev pub spread_of : Bool → ℕ → ℕ
spread_of spaced k = cond spaced (k + (k - 1) / 3) k

-- what stands before a group: one space, if it is whole
abbrev pub gap_before : Bool → ℕ → List ℕ
gap_before spaced group = cond (spaced && eqb group 3) (32 ∷ []) []

-- the characters that figures take, with their minus and their spaces
abbrev pub characters_of : Figures → ℕ
characters_of f = length (minus f.number.negative) + spread_of f.spaced f.count

-- the string of figures
abbrev pub string_of : Figures → List ℕ
string_of f = minus f.number.negative ++ digits (radix f.base) f.spaced f.count f.number.magnitude

-- all the digits of the number that a value's low bits stand for
abbrev pub decimal_figures : Bool → Bool → Width → ℕ → Figures
decimal_figures signed spaced width value =
    let n = number_in signed width value in
    record { number = n; base = Ten; count = digit_count 10 n.magnitude; spaced = spaced }
