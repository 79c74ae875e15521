-- `run_from` meets its contract: once the value is over 4294967295, no digit behind it changes that.
use mathlib.Core.List.{List}
use mathlib.Core.Path.{◌≡◌, ap, ◌∙◌}
use Prim.Native.Nat.{ℕ, zero, suc, ◌+◌, ◌*◌, ◌<◌, ◌≤◌}
use native.Mathlib.Omega.{arith}
use lib.ListN.{length, get_or, drop}
use Rattle.std.specs.Prelude.{Some}
use Rattle.reader.specs.Reading.{run, worth}
use Rattle.reader.specs.inner.Steps.{cut, digit_in}
use Rattle.reader.proofs.Laws.{run_more, cut_settled}
use Rattle.reader.proofs.digits.run_from.Invariants.{Reached}
use Rattle.reader.proofs.digits.run_from.Goals as goal

-- in base 0 nothing is worth so much
above_0 : (value base d : ℕ) → d ≤ 255 → 4294967296 ≤ value * base + d → 0 < base
above_0 value zero d small big = absurd (omega arith)
above_0 value (suc base) d small big = omega arith

settled :
    {text : List ℕ} {first base value at d : ℕ} → Reached text first base value at → at < length text →
    digit_in base (get_or text at 0) ≡ Some d → d ≤ 255 → 4294967296 ≤ value * base + d → 4294967296 ≡ cut (worth base 0 (run base (drop first text)))
settled {text} {base = base} {value} {at} {d} r h e small big =
    rw (r.worths ∙ ap (worth base value) (run_more text at base h e))
    (cut_settled base (value * base + d) (run base (drop (at + 1) text)) (above_0 value base d small big) big)

pub returns-then-next-ge4294967296-clause-value : goal.returns-then-next-ge4294967296-clause-value
returns-then-next-ge4294967296-clause-value c =
    settled {d = c.in-Some.d} c.loop-at.invariant c.loop-at-test.true (cc) (omega arith)
    (rw (c.from.ensures, c.from-in-loop-at.ensures) at c.if-next-ge4294967296.true)
