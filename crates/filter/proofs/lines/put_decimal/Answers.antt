-- `put_decimal` meets its contract: what the library writes of a number is its decimal, of at most 20 digits.
use mathlib.Core.Path.{ap, ◌∙◌}
use native.Mathlib.Omega.{arith}
use lib.ListN.{length}
use Rattle.std.proofs.lemmas.Fmt.{length-decimal-le}
use Rattle.filter.proofs.LineLaws.{put_same, written}
use Rattle.filter.proofs.lines.put_decimal.Goals as goal

pub put-requires : goal.put-requires
put-requires c =
    let few = length-decimal-le 20 c.args.n (omega arith) (omega arith) (omega arith) in
    omega (arith, few, ap length (c.as_bytes.ensures.value ∙ c.format.ensures.text))

pub returns : goal.returns
returns c =
    let a = c.args in
    let few = length-decimal-le 20 a.n (omega arith) (omega arith) (omega arith) in
    let text = c.as_bytes.ensures.value ∙ c.format.ensures.text in
    let whole = put_same a.out.now a.at (text ∙ written a.n (omega arith)) (c.put.ensures.next, c.put.ensures.buffer) in
    record { near = omega (arith, few, ap length text, c.put.ensures.next); next = whole.0; buffer = whole.1 }
