-- The calls: the form of each by its number.
use Rattle.std.specs.Prelude.{Bool, true, false, cond, List, ℕ, ◌-◌, ◌/◌, ◌%◌, ltb, eqb}
use Rattle.forms.specs.Strings.{Form, string}
use Rattle.forms.specs.declared.forms.Base.{Base}
use Rattle.forms.specs.declared.forms.Base.TheVariants.{Two, Ten, Sixteen}
use Rattle.forms.specs.declared.forms.Width.{Width}
use Rattle.forms.specs.declared.forms.Width.TheVariants.{Nibble, Byte, TwoBytes, ThreeBytes, Word}

-- the X form, bit 17, makes no difference
abbrev pub without_x : ℕ → ℕ
without_x call = cond (eqb (call / 131072 % 2) 1) (call - 131072) call

-- hex of 1, 2, 4, 6 and 8 digits; 1 to 4 bytes are numbers 1 to 4
abbrev pub width_number : ℕ → Width
width_number n = cond (eqb n 0) Nibble (cond (eqb n 1) Byte (cond (eqb n 2) TwoBytes (cond (eqb n 3) ThreeBytes Word)))

-- every digit of the width
abbrev pub fixed : Base → Width → Form
fixed base width = record { base = base; padded = true; width = width; signed = false; spaced = false; terminated = true }

abbrev pub hex : Width → Form
hex width = fixed Sixteen width

abbrev pub binary : Width → Form
binary width = fixed Two width

abbrev pub decimal : Bool → Bool → Bool → Width → Form
decimal signed spaced terminated width =
    record { base = Ten; padded = false; width = width; signed = signed; spaced = spaced; terminated = terminated }

-- signed, of four bytes, with no zero byte
abbrev pub bare : Form
bare = decimal true false false Word

-- the signed decimal of a 32-bit pattern
abbrev pub decimal_of : ℕ → List ℕ
decimal_of value = string bare value

-- what a call's number stands for: a form, or nothing
pub data Described : Type 0 where
  unknown : Described
  known : Form → Described

-- &D0 to &E8
unfoldable pub ranged : ℕ → Described
ranged c =
    cond (ltb c 0xD0) unknown
    (cond (ltb c 0xD5) (known (hex (width_number (c - 0xD0))))
    (cond (ltb c 0xD9) (known (decimal false false true (width_number (c - 0xD4))))
    (cond (ltb c 0xDD) (known (decimal true false true (width_number (c - 0xD8))))
    (cond (ltb c 0xE1) (known (binary (width_number (c - 0xDC))))
    (cond (ltb c 0xE5) (known (decimal false true true (width_number (c - 0xE0))))
    (cond (ltb c 0xE9) (known (decimal true true true (width_number (c - 0xE4))))
    unknown))))))

-- &28 is as &DC, with no zero byte
unfoldable pub described : ℕ → Described
described call = cond (eqb (without_x call) 0x28) (known bare) (ranged (without_x call))
