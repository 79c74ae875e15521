-- `nos_build_index` meets its contract: the numbers of `build_index`'s answer.
use mathlib.Core.Path.{ap, ◌∙◌}
use Rattle.indexes.specs.Buildings.{built_answer}
use Rattle.nosgoludd.specs.Faces.{answer_face}
use Rattle.nosgoludd.proofs.buildings.nos_build_index.Goals as goal

pub returns : goal.returns
returns c =
    record {
      answer = c.from.ensures ∙ ap (λ r. answer_face (built_answer r)) c.build_index.ensures.answer;
      buffer = c.build_index.ensures.buffer;
    }
