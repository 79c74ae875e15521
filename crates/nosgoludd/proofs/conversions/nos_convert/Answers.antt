-- `nos_convert` meets its contract: the numbers of `convert`'s answer, which are those of the paper.
use mathlib.Core.Path.{ap, ◌∙◌}
use lib.ListN.{length}
use Rattle.paper.specs.Layings.{converted_answer}
use Rattle.numbers.proofs.PaperNumbers.{converted_kept}
use Rattle.nosgoludd.specs.Faces.{answer_face}
use Rattle.nosgoludd.proofs.conversions.nos_convert.Goals as goal

pub returns : goal.returns
returns c =
    let a = c.args in
    record {
      answer = c.from.ensures ∙ ap answer_face (ap converted_answer c.convert.ensures.answer ∙ converted_kept a.call a.value (length a.buf.now));
      buffer = c.convert.ensures.buffer;
    }
