-- The string of a value in a form.
use Rattle.std.specs.Prelude.{Bool, cond, ◌&&◌, List, [], ◌∷◌, ◌++◌, ℕ, ◌-◌, ◌*◌, ◌%◌, ◌^◌, leb}
use Rattle.forms.specs.Digits.{digits, digit_count}
use Rattle.forms.specs.declared.forms.Base.{Base}
use Rattle.forms.specs.declared.forms.Base.TheVariants.{Two, Ten, Sixteen}
use Rattle.forms.specs.declared.forms.Width.{Width}
use Rattle.forms.specs.declared.forms.Width.TheVariants.{Nibble, Byte, TwoBytes, ThreeBytes, Word}

abbrev pub radix : Base → ℕ
radix Two = 2
radix Ten = 10
radix Sixteen = 16

-- how much of a value a width uses, from the low end
abbrev pub bits : Width → ℕ
bits Nibble = 4
bits Byte = 8
bits TwoBytes = 16
bits ThreeBytes = 24
bits Word = 32

abbrev pub largest : Width → ℕ
largest width = 2 ^ bits width - 1

-- what a call writes. Padded: leading zeros are kept, so that there are as many digits as the largest number of the width has.
-- Signed: two's complement of the width, with a minus where it is negative. Spaced: a space between groups of three digits, counted
-- from the right. Terminated: a zero byte behind the string
pub record Form : Type 0 where
  pub base : Base
  pub padded : Bool
  pub width : Width
  pub signed : Bool
  pub spaced : Bool
  pub terminated : Bool

-- the bits that are used
abbrev pub used : Form → ℕ → ℕ
used form value = value % 2 ^ bits form.width

-- two's complement: the top bit is set
abbrev pub negative : Form → ℕ → Bool
negative form value = form.signed && leb (2 ^ bits form.width) (2 * used form value)

abbrev pub magnitude : Form → ℕ → ℕ
magnitude form value = cond (negative form value) (2 ^ bits form.width - used form value) (used form value)

-- how many digits of n are written
abbrev pub count : Form → ℕ → ℕ
count form n = digit_count (radix form.base) (cond form.padded (largest form.width) n)

abbrev pub minus : Bool → List ℕ
minus below = cond below (45 ∷ []) []

unfoldable pub string : Form → ℕ → List ℕ
string form value =
    let n = magnitude form value in
    minus (negative form value) ++ digits (radix form.base) form.spaced (count form n) n
