-- `convert_far` meets its contract: what was told of the format decides, and then the room.
use mathlib.Core.Path.{ap, sym, ◌∙◌}
use Rattle.std.specs.Prelude.{Err}
use Rattle.dates.proofs.Rendering.{bad_answer, good_answer, told_length}
use Rattle.dates.proofs.render.FormattedMoment.convert_far.Goals as goal

pub write_out-requires : goal.write_out-requires
write_out-requires c =
    let a = c.args in
    sym (told_length a.self.now.moment a.self.now.format.now a.buf.now _ (sym c.measure.ensures ∙ c.in-Ok.is)).0

pub returns-in-Err : goal.returns-in-Err
returns-in-Err c =
    let a = c.args in
    let t = bad_answer a.self.now.moment a.self.now.format.now a.buf.now _ (sym c.measure.ensures ∙ c.in-Err.is) in
    record {
      answer = ap Err c.refused.ensures ∙ t.0;
      buffer = t.1;
    }

pub returns-in-Ok : goal.returns-in-Ok
returns-in-Ok c =
    let a = c.args in
    let written = c.write_out.ensures in
    let t =
    good_answer a.self.now.moment a.self.now.format.now a.buf.now _ (sym c.measure.ensures ∙ c.in-Ok.is) _ _ (written.answer, written.buffer) in
    record {
      answer = t.0;
      buffer = t.1;
    }
