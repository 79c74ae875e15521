-- `give` meets its contract: with no look-up left it refuses; else the bytes are laid for one.
use mathlib.Core.Path.{◌≡◌, refl, ap, subst}
use mathlib.Core.List.{List}
use Prim.Native.Nat.{ℕ, suc, ◌+◌, ◌-◌, ◌≤◌}
use native.Mathlib.Omega.{arith}
use lib.ListN.{length}
use Rattle.paper.specs.Traces.{asks, spends, run}
use Rattle.gs.specs.Readings.{gives_all}
use Rattle.gs.specs.inner.Steps.{Laid, Passes, Came, came_going, came_refused}
use Rattle.std.specs.Prelude.{Ok, Err}
use Rattle.paper.specs.declared.TextPlace.{TextPlace}
use Rattle.paper.specs.declared.refusals.Refusal.TheVariants.{AllowanceSpent}
use Rattle.gs.proofs.Pieces.{laid_at_lem, passes_all}
use Rattle.gs.proofs.values.give.Goals as goal

module _ (given out name : List ℕ) (left : ℕ) (at : TextPlace) (to : ℕ) where
  none_left : left ≡ 0 → Came (λ rest. asks name (spends at.0 (gives_all given rest))) left to out out (Err (record { why = AllowanceSpent; at = at }))
  none_left h = came_refused (record { why = AllowanceSpent; at = at }) refl (λ rest. ap (run (asks name (spends at.0 (gives_all given rest)))) h)

  some_left : (after : List ℕ) → (left ≡ 0 → ⊥) → length given ≤ 255 → Laid out to given after
      → Came (λ rest. asks name (spends at.0 (gives_all given rest))) left to out after (Ok (record { to = to + length given; left = left - 1 }))
  some_left after h small laid =
      let back : suc (left - 1) ≡ left = omega arith in
      came_going (left - 1) given
      (subst (λ l. Passes (λ rest. asks name (spends at.0 (gives_all given rest))) l (left - 1) given) back (passes_all given name at.0 (left - 1) small))
      laid

pub returns-then-carried-eq0 : goal.returns-then-carried-eq0
returns-then-carried-eq0 c name =
    let a = c.args in
    none_left a.given.now a.out.now name a.carried.left a.at a.carried.to c.if-carried-eq0.true

pub returns : goal.returns
returns c name =
    let a = c.args in
    some_left a.given.now a.out.now name a.carried.left a.at a.carried.to _ c.if-carried-eq0.false c.requires.0 (laid_at_lem _ _ _ _ c.copy.ensures)
