-- `read_unsigned` meets its contract: each return knows which form the number has.
use mathlib.Core.Bool.{Bool, cond}
use mathlib.Core.List.{List}
use mathlib.Core.Path.{◌≡◌, ◌∙◌}
use Prim.Native.Nat.{ℕ, ◌+◌, ◌≤◌}
use native.Mathlib.Nat.{zero-add}
use native.Mathlib.Omega.{arith}
use borrow.Author.Tests.{eq-eqb, ne_eqb, lt-ltb, le-ltb}
use lib.ListN.{length, get_or, drop}
use Rattle.paper.specs.Refusals.{longest}
use Rattle.paper.specs.Bytes.{space, spaces}
use Rattle.paper.proofs.Runs.{run_short}
use Rattle.std.specs.Prelude.{Result}
use Rattle.paper.specs.declared.refusals.Refused.{Refused}
use Rattle.reader.specs.declared.Number.{Number}
use Rattle.reader.specs.Reading.{run, worth, judged, in_base, marked, numbered, reading}
use Rattle.reader.specs.inner.Steps.{cut}
use Rattle.reader.proofs.Laws.{run_within, cut_judged, cut_in_base}
use Rattle.reader.proofs.read_unsigned.Goals as goal

-- with no "&" at the start, the decimal digits there, which end at `end` and are worth `value`, cut, are a base or the number
abbrev split : List ℕ → Bool → ℕ → ℕ → ℕ → ℕ → Result Number Refused
split text whole limit start end value =
    cond (marked text start end) (in_base text whole limit start (end + 1) value) (judged text whole limit start start end value)

led :
    (text : List ℕ) (whole : Bool) (limit start : ℕ) {end value : ℕ} → (get_or text start 0 ≡ 38 → ⊥) →
    end ≡ start + length (run 10 (drop start text)) → value ≡ cut (worth 10 0 (run 10 (drop start text))) →
    numbered text whole limit start ≡ split text whole limit start end value
unfolding numbered
led text whole limit start n e v = rw (ne_eqb (get_or text start 0) 38 n, e, v, cut_in_base, cut_judged)

-- behind its spaces a text that is not too long is read from its start on
from_start : (text : List ℕ) (whole : Bool) (limit : ℕ) {start : ℕ} → start ≡ 0 + spaces (drop 0 text) → length text ≤ longest
    → reading text whole limit ≡ numbered text whole limit start
unfolding reading
from_start text whole limit s short = rw (le-ltb _ _ short, s ∙ zero-add _)

start_within : (text : List ℕ) {start : ℕ} → start ≡ 0 + spaces (drop 0 text) → start ≤ length text
start_within text s = omega (arith, s, run_short space text)

pub returns-then-text-gt-LONGEST : goal.returns-then-text-gt-LONGEST
unfolding reading
returns-then-text-gt-LONGEST c = rw (c.refused.ensures, lt-ltb _ _ c.if-text-gt-LONGEST.true)

pub overflow_add-start : goal.overflow_add-start
overflow_add-start c = omega (arith, start_within c.args.text.now c.skip-start.ensures)

pub returns-then-byte-eq38 : goal.returns-then-byte-eq38
unfolding numbered
returns-then-byte-eq38 c =
    rw (
      c.based.ensures,
      from_start c.args.text.now c.args.whole c.args.limit c.skip-start.ensures c.if-text-gt-LONGEST.false,
      ← c.byte.ensures,
      eq-eqb _ _ c.if-byte-eq38.true,
    )

pub overflow_add-mark : goal.overflow_add-mark
overflow_add-mark c =
    let text = c.args.text.now in
    let within = start_within text c.skip-start.ensures in
    omega (arith, within, c.run_from-lead.ensures.end, run_within 10 c.skip-start.result text within)

pub returns-then-marked : goal.returns-then-marked
returns-then-marked c =
    let a = c.args in
    rw (
      c.in_base.ensures,
      from_start a.text.now a.whole a.limit c.skip-start.ensures c.if-text-gt-LONGEST.false,
      led a.text.now a.whole a.limit c.skip-start.result (λ e. c.if-byte-eq38.false (c.byte.ensures ∙ e)) c.run_from-lead.ensures.end c.run_from-lead.ensures.value,
      ← c.marked.ensures,
      c.if-marked.true,
    )

pub returns : goal.returns
returns c =
    let a = c.args in
    rw (
      c.judge.ensures,
      from_start a.text.now a.whole a.limit c.skip-start.ensures c.if-text-gt-LONGEST.false,
      led a.text.now a.whole a.limit c.skip-start.result (λ e. c.if-byte-eq38.false (c.byte.ensures ∙ e)) c.run_from-lead.ensures.end c.run_from-lead.ensures.value,
      ← c.marked.ensures,
      c.if-marked.false,
    )
