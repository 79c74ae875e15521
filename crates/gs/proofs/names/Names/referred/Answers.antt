-- `referred` meets its contract: the keys and the index lead to what names mean, and a value has up to 255 bytes.
use mathlib.Core.Path.{sym, subst, ◌∙◌}
use Prim.Native.Nat.{◌≤◌}
use Rattle.references.proofs.Resolved.{as_led}
use Rattle.gs.specs.inner.Steps.{length_in}
use Rattle.gs.proofs.names.Names.referred.Goals as goal

pub returns : goal.returns
returns c =
    let s = c.args.self.now in
    let content = c.args.content.now in
    let led = c.resolve.ensures ∙ as_led s.tables.farm.now s.tables.house.now s.keys.now s.index.now content s.leads in
    record { meaning = led; short = subst (λ r. length_in r ≤ 255) (sym led) (s.short content) }
