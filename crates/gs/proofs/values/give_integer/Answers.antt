-- `give_integer` meets its contract: the decimal has room in the digits, and is given as any bytes are.
use mathlib.Core.Path.{◌≡◌, ap, subst, ◌∙◌}
use mathlib.Core.List.{List}
use Prim.Native.Nat.{ℕ, ◌-◌}
use native.Mathlib.Nat.{sub-zero}
use lib.ListN.{length, take}
use lib.Seq.{take-append_seam}
use Rattle.paper.specs.Traces.{asks, spends}
use Rattle.forms.specs.Calls.{decimal_of}
use Rattle.gs.specs.Readings.{gives_all}
use Rattle.gs.specs.inner.Steps.{Came}
use Rattle.gs.proofs.values.give_integer.Goals as goal

pub returns : goal.returns
returns c name =
    let a = c.args in
    let w = c.signed_decimal-count in
    let string : List ℕ = decimal_of c.pattern_of.result in
    -- the part of the digits that is lent is the decimal
    let lent : take (w.result - 0) w.new.out ≡ string = ap (λ m. take m w.new.out) (sub-zero w.result ∙ w.ensures.length.0)
    ∙ ap (take (length string)) w.ensures.buffer
    ∙ take-append_seam string _ in
    subst (λ bs. Came (λ rest. asks name (spends a.at.0 (gives_all bs rest))) a.carried.left a.carried.to a.out.now c.give.new.out c.give.result)
    (lent ∙ ap decimal_of c.pattern_of.ensures)
    (c.give.ensures name)
