-- What the functions give, over the types that only the code has.
use Rattle.std.specs.Prelude.{Bool, true, false, cond, ◌&&◌, ℕ, ◌-◌, ◌*◌, ◌%◌, ◌^◌, leb, Option, Some, None}
use Rattle.forms.specs.Strings.{bits}
use Rattle.forms.specs.Calls.{hex, binary, decimal, bare, Described, unknown, known}
use Rattle.forms.specs.declared.calls.Family.{Family}
use Rattle.forms.specs.declared.calls.Family.TheVariants.{Hex, Binary, Unsigned, Signed, SpacedUnsigned, SpacedSigned, Bare}
use Rattle.forms.specs.declared.forms.Width.{Width}
use Rattle.forms.specs.declared.size.Number.{Number}

-- the form of a family's calls; none where there is no family
abbrev pub form_of : Option Family → Described
form_of None = unknown
form_of (Some (Hex width)) = known (hex width)
form_of (Some (Binary width)) = known (binary width)
form_of (Some (Unsigned width)) = known (decimal false false true width)
form_of (Some (Signed width)) = known (decimal true false true width)
form_of (Some (SpacedUnsigned width)) = known (decimal false true true width)
form_of (Some (SpacedSigned width)) = known (decimal true true true width)
form_of (Some Bare) = known bare

-- the number that the low bits of a value stand for
abbrev pub number_in : Bool → Width → ℕ → Number
number_in signed width value =
    let used = value % 2 ^ bits width in
    let below = signed && leb (2 ^ bits width) (2 * used) in
    record { negative = below; magnitude = cond below (2 ^ bits width - used) used }
