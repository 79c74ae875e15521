-- `write_fixed` meets its contract: it writes its form's parts.
use mathlib.Core.Path.{◌≡◌}
use mathlib.Core.Bool.{false}
use Rattle.forms.specs.Calls.{fixed}
use Rattle.forms.specs.inner.Steps.{number_in}
use Rattle.forms.specs.declared.size.Number.{Number}
use Rattle.numbers.proofs.Parts.{converted}
use Rattle.numbers.proofs.write_fixed.Goals as goal

pub returns : goal.returns
returns c =
    let a = c.args in
    let low = c.low_bits in
    let number : Number = record { negative = false; magnitude = low.result } in
    let same : number ≡ number_in false a.width a.value = λ i. record { negative = false; magnitude = low.ensures i } in
    let made = converted (fixed a.base a.width) a.value number a.count same c.requires a.buf.now (c.write.ensures.answer, c.write.ensures.buffer) in
    record {
      answer = made.0;
      buffer = made.1;
    }
