-- `copy_out` meets its contract: the bytes are copied where the string's whole room could be claimed.
use mathlib.Core.Path.{sym, ◌∙◌}
use lib.ListN.{take}
use lib.Seq.{length-take-le}
use Rattle.paper.proofs.Claimed.{answers, handed_on, fits, whole, kept}
use Rattle.dates.proofs.Rendering.{laid_at_start}
use Rattle.dates.proofs.copy_out.Goals as goal

pub slice_bounds-copy-end : goal.slice_bounds-copy-end
slice_bounds-copy-end c = sym (length-take-le c.args.characters c.args.near.now c.requires.0)

pub returns : goal.returns
returns c =
    let text = take c.args.characters c.args.near.now in
    let long = length-take-le c.args.characters c.args.near.now c.requires.0 in
    let claimed = c.claim.ensures in
    let room = fits text _ long _ _ _ _ claimed.answer claimed.buffer _ c.in_ok-written.was in
    record {
      answer = sym c.in_ok-written.was ∙ answers text _ long _ _ _ _ claimed.answer claimed.buffer;
      buffer = whole text _ long _ _ _ _ claimed.answer claimed.buffer _ c.in_ok-written.was _ (laid_at_start text _ _ _ long room c.copy.ensures);
    }

pub returns-in_err-written : goal.returns-in_err-written
returns-in_err-written c =
    let text = take c.args.characters c.args.near.now in
    let long = length-take-le c.args.characters c.args.near.now c.requires.0 in
    let claimed = c.claim.ensures in
    record {
      answer = handed_on text _ long _ _ _ _ claimed.answer claimed.buffer _ _ c.from_residual.ensures.1 c.in_err-written.was;
      buffer = kept text _ long _ _ _ _ claimed.answer claimed.buffer _ c.in_err-written.was;
    }
