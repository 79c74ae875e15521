-- `low_part` meets its contract: a mask of ones keeps what a division by the power of two above it leaves over.
use mathlib.Core.Path.{ap, sym, ◌∙◌}
use Prim.Native.Nat.{◌-◌, ◌%◌}
use lib.Bits.{bit_and, and_mask}
use Rattle.forms.proofs.forms.low_part.Goals as goal

pub returns : goal.returns
returns c =
    let v = c.args.value in
    let power = c.requires.2 in
    ap (λ s. bit_and v (s - 1)) power ∙ and_mask v c.requires.0 ∙ sym (ap (λ s. v % s) power)
