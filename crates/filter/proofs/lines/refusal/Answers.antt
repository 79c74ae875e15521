-- `refusal` meets its contract: its five parts stand one after the other.
use mathlib.Core.Path.{sym}
use Rattle.filter.proofs.LineLaws.{refusal_parts}
use Rattle.filter.proofs.lines.refusal.Goals as goal

pub returns : goal.returns
returns c =
    let a = c.args in
    let parts = refusal_parts c.number.result a.place a.out.now
    (c.put-said.ensures.next, c.put-said.ensures.buffer)
    (c.put_decimal-numbered.ensures.next, c.put_decimal-numbered.ensures.buffer)
    (c.put-placed.ensures.next, c.put-placed.ensures.buffer)
    (c.put_decimal-ended.ensures.next, c.put_decimal-ended.ensures.buffer)
    (c.put.ensures.next, c.put.ensures.buffer) in
    rw (sym c.number.ensures) record { length = parts.0; buffer = parts.1 }
