-- `write_decimal` meets its contract: it writes all the digits of its number.
use mathlib.Core.Path.{ap, ◌∙◌}
use lib.ListN.{length}
use Rattle.paper.specs.Layings.{laying, laid_in, converted_by}
use Rattle.numbers.specs.inner.Steps.{string_of}
use Rattle.numbers.proofs.Parts.{decimal_is}
use Rattle.numbers.proofs.write_decimal.Goals as goal

pub returns : goal.returns
returns c =
    let a = c.args in
    let is = ap string_of c.decimal_figures.ensures ∙ decimal_is a.signed a.spaced a.terminated a.width a.value in
    record {
      answer = c.write.ensures.answer ∙ ap (λ s. converted_by (laying s a.terminated (length a.buf.now))) is;
      buffer = c.write.ensures.buffer ∙ ap (λ s. laid_in s a.terminated a.buf.now) is;
    }
