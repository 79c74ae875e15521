-- `answer` meets its contract: what stands in the buffer is the bytes that were given, or the line of the refusal.
use mathlib.Core.Path.{◌≡◌, refl}
use lib.ListN.{length}
use borrow.Author.Rules.{rules}
use Rattle.paper.specs.Refusals.{longest}
use Rattle.filter.proofs.ShownLaws.{written_answer, line_answer}
use Rattle.filter.proofs.answer.Goals as goal

pub returns-in-Ok : goal.returns-in-Ok
returns-in-Ok c =
    let a = c.args in
    let room : length a.out.now ≡ longest = search rules in
    let both = written_answer a.text.now _ _ a.out.now refl c.none.ensures room _ _ _ c.translate-translated.ensures.buffer
    c.translate-translated.ensures.answer c.in-Ok.is in
    record { length = both.0; buffer = both.1 }

pub returns-in-Err : goal.returns-in-Err
returns-in-Err c =
    let a = c.args in
    let room : length a.out.now ≡ longest = search rules in
    let both = line_answer a.text.now _ _ a.out.now refl c.none.ensures room _ _ c.translate-translated.ensures.buffer
    c.translate-translated.ensures.answer c.in-Err.is (c.explain.ensures.length, c.explain.ensures.buffer) in
    record { length = both.0; buffer = both.1 }
