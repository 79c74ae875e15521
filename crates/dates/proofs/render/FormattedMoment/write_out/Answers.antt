-- `write_out` meets its contract: the characters are written where the string's whole room could be claimed.
use mathlib.Core.Path.{sym, ◌∙◌}
use Prim.Native.Nat.{suc}
use native.Mathlib.Omega.{arith}
use lib.ListN.{length}
use Rattle.paper.proofs.Claimed.{answers, handed_on, fits, whole, kept}
use Rattle.dates.specs.Formats.{layout_of, string}
use Rattle.dates.proofs.Layouts.{string_short}
use Rattle.dates.proofs.Rendering.{at_start}
use Rattle.dates.proofs.render.FormattedMoment.write_out.Goals as goal

pub overflow_cast-characters : goal.overflow_cast-characters
overflow_cast-characters c =
    let a = c.args.self.now in
    record { fits = omega (arith, a.short, c.requires, string_short a.moment (suc (length a.format.now)) a.format.now 0 (omega arith)) }

pub returns : goal.returns
returns c =
    let text = string c.args.self.now.moment (layout_of c.args.self.now.format.now) in
    let long = sym c.requires in
    let claimed = c.claim.ensures in
    let room = fits text _ long _ _ _ _ claimed.answer claimed.buffer _ c.in_ok-written.was in
    record {
      answer = sym c.in_ok-written.was ∙ answers text _ long _ _ _ _ claimed.answer claimed.buffer;
      buffer = whole text _ long _ _ _ _ claimed.answer claimed.buffer _ c.in_ok-written.was _
          (c.render.ensures.buffer (omega (arith, long, room)) ∙ at_start text _ _ long room);
    }

pub returns-in_err-written : goal.returns-in_err-written
returns-in_err-written c =
    let text = string c.args.self.now.moment (layout_of c.args.self.now.format.now) in
    let long = sym c.requires in
    let claimed = c.claim.ensures in
    record {
      answer = handed_on text _ long _ _ _ _ claimed.answer claimed.buffer _ _ c.from_residual.ensures.1 c.in_err-written.was;
      buffer = kept text _ long _ _ _ _ claimed.answer claimed.buffer _ c.in_err-written.was;
    }
