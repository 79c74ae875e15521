-- `write` meets its contract: the characters are written where the string's whole room could be claimed.
use mathlib.Core.Path.{sym, ◌∙◌}
use Rattle.paper.proofs.Claimed.{answers, handed_on, fits, whole, kept}
use Rattle.numbers.proofs.Laws.{string_length}
use Rattle.numbers.proofs.write.Goals as goal

pub lay-requires : goal.lay-requires
lay-requires c =
    let end = c.characters-end.ensures.0 in
    let long = string_length c.args.figures ∙ sym end in
    (end, fits _ _ long _ _ _ _ c.claim.ensures.answer c.claim.ensures.buffer _ c.in_ok-written.was)

pub returns : goal.returns
returns c =
    let long = string_length c.args.figures ∙ sym c.characters-end.ensures.0 in
    record {
      answer = sym c.in_ok-written.was ∙ answers _ _ long _ _ _ _ c.claim.ensures.answer c.claim.ensures.buffer;
      buffer = whole _ _ long _ _ _ _ c.claim.ensures.answer c.claim.ensures.buffer _ c.in_ok-written.was _ c.lay.ensures;
    }

pub returns-in_err-written : goal.returns-in_err-written
returns-in_err-written c =
    let long = string_length c.args.figures ∙ sym c.characters-end.ensures.0 in
    record {
      answer = handed_on _ _ long _ _ _ _ c.claim.ensures.answer c.claim.ensures.buffer _ _ c.from_residual.ensures.1 c.in_err-written.was;
      buffer = kept _ _ long _ _ _ _ c.claim.ensures.answer c.claim.ensures.buffer _ c.in_err-written.was;
    }
