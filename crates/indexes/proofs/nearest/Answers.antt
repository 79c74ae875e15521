-- `nearest` meets its contract. The loop's invariant: with so many halvings left as its entries need, the search comes to what it comes to
-- among these. The measure is their number.
use mathlib.Core.Bool.{Bool, true, false}
use mathlib.Core.List.{List}
use mathlib.Core.Path.{◌≡◌, refl, ap, sym, ◌∙◌}
use Prim.Native.Nat.{ℕ, zero, suc, ◌+◌, ◌-◌, ◌/◌, ◌^◌, ◌<◌, ◌≤◌}
use native.Mathlib.Omega.{arith}
use borrow.Author.Tests.{lt-ltb, le-ltb}
use Rattle.records.specs.Records.{name_at, comes_before}
use Rattle.indexes.specs.inner.Halving.{place_in, name_in, nearest}
use Rattle.indexes.proofs.nearest.Goals as goal

module _ (table index name : List ℕ) (first size : ℕ) where
  -- one entry, or none, is found as it is
  done : (more : ℕ) → size ≤ 1 → nearest more table index name first size ≡ first
  unfolding nearest
  done zero h = refl
  done (suc more) h = rw (le-ltb 1 size h)

  abbrev later : Bool
  later = comes_before name (name_in table index (first + size / 2))

  -- what is left to be searched, and a halving less for it
  abbrev Left : ℕ → ℕ → ℕ → Type 0
  Left more first₁ size₁ = (less : ℕ) × (size₁ ≤ 2 ^ less) × (nearest more table index name first size ≡ nearest less table index name first₁ size₁)

  lower : (more : ℕ) → 1 < size → size ≤ 2 ^ more → later ≡ true → Left more first (size / 2)
  unfolding nearest
  lower zero h few e = absurd (omega arith)
  lower (suc more) h few e = (more, omega (arith, few), rw (lt-ltb 1 size h, e))

  upper : (more : ℕ) → 1 < size → size ≤ 2 ^ more → later ≡ false → Left more (first + size / 2) (size - size / 2)
  unfolding nearest
  upper zero h few e = absurd (omega arith)
  upper (suc more) h few e = (more, omega (arith, few), rw (lt-ltb 1 size h, e))

-- what the comparison with the middle entry's name told
told :
    (table index name : List ℕ) (k : ℕ) {place : ℕ} {at : List ℕ} {b t : Bool} → place ≡ place_in index k → at ≡ name_at table place →
    b ≡ comes_before name at → b ≡ t → comes_before name (name_in table index k) ≡ t
told table index name k p q r e = ap (comes_before name) (sym (q ∙ ap (name_at table) p)) ∙ sym r ∙ e

pub loop-size-init : goal.loop-size-init
loop-size-init c = (omega arith, λ h. h, (8, omega arith, refl))

pub overflow_add-middle : goal.overflow_add-middle
overflow_add-middle c = omega arith

pub loop-size-smaller-then-comes_before : goal.loop-size-smaller-then-comes_before
loop-size-smaller-then-comes_before c = omega arith

pub loop-size-preserved-then-comes_before : goal.loop-size-preserved-then-comes_before
loop-size-preserved-then-comes_before c =
    let i = c.loop-size.invariant in
    let l = lower _ _ _ _ _ i.2.0 (omega arith) i.2.1 (told _ _ _ _ c.place_at.ensures.0 c.name_at.ensures c.comes_before.ensures c.if-comes_before.true) in
    (omega arith, λ h. omega arith, (l.0, l.1, i.2.2 ∙ l.2))

pub loop-size-smaller : goal.loop-size-smaller
loop-size-smaller c = omega arith

pub loop-size-preserved : goal.loop-size-preserved
loop-size-preserved c =
    let i = c.loop-size.invariant in
    let l = upper _ _ _ _ _ i.2.0 (omega arith) i.2.1 (told _ _ _ _ c.place_at.ensures.0 c.name_at.ensures c.comes_before.ensures c.if-comes_before.false) in
    (omega arith, λ h. omega arith, (l.0, l.1, i.2.2 ∙ l.2))

pub overflow_sub-size : goal.overflow_sub-size
overflow_sub-size c = omega arith

pub returns : goal.returns
returns c =
    let i = c.loop-size.invariant in
    (sym (i.2.2 ∙ done _ _ _ _ _ i.2.0 c.loop-size-test.false), λ h. omega (arith, i.0, i.1 h))
