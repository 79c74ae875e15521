-- `nos_convert_date` meets its contract: the numbers of `convert_date`'s answer, which are those of the paper.
use mathlib.Core.Path.{ap, ◌∙◌}
use lib.ListN.{length}
use Rattle.paper.specs.Layings.{converted_answer}
use Rattle.dates.proofs.Outcomes.{converted_kept}
use Rattle.nosgoludd.specs.Faces.{answer_face}
use Rattle.nosgoludd.proofs.conversions.nos_convert_date.Goals as goal

pub returns : goal.returns
returns c =
    let a = c.args in
    record {
      answer = c.from.ensures
          ∙ ap answer_face (ap converted_answer c.convert_date.ensures.answer ∙ converted_kept a.time.now a.format.now (length a.buf.now));
      buffer = c.convert_date.ensures.buffer;
    }
