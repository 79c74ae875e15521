-- `slot_in` meets its contract: behind the nearest entry, or before all of them.
use mathlib.Core.Bool.{Bool, cond}
use mathlib.Core.List.{List}
use mathlib.Core.Path.{◌≡◌, ap, sym, ◌∙◌}
use Prim.Native.Nat.{ℕ, ◌+◌, ◌<◌}
use native.Mathlib.Omega.{arith}
use borrow.Author.Tests.{lt-ltb, le-ltb}
use Rattle.records.specs.Records.{name_at, comes_before}
use Rattle.indexes.specs.inner.Halving.{halvings, place_in, name_in, nearest, slot_in}
use Rattle.indexes.proofs.building.slot_in.Goals as goal

-- what the comparison with the nearest name settles
settled :
    (table index : List ℕ) (count : ℕ) (name : List ℕ) {near : ℕ} {t : Bool} → 0 < count → near ≡ nearest halvings table index name 0 count →
    comes_before name (name_in table index near) ≡ t → cond t near (near + 1) ≡ slot_in table index count name
unfolding slot_in
settled table index count name some e q = rw (lt-ltb 0 count some, ← e, q)

-- what the comparison with the nearest name told
told :
    (table index name : List ℕ) (k : ℕ) {place : ℕ} {at : List ℕ} {b t : Bool} → place ≡ place_in index k → at ≡ name_at table place →
    b ≡ comes_before name at → b ≡ t → comes_before name (name_in table index k) ≡ t
told table index name k p q r e = ap (comes_before name) (sym (q ∙ ap (name_at table) p)) ∙ sym r ∙ e

pub returns-then-count-eq0 : goal.returns-then-count-eq0
unfolding slot_in
returns-then-count-eq0 c = (rw (le-ltb 0 c.args.count (omega arith)), omega arith)

pub returns-then-comes_before : goal.returns-then-comes_before
returns-then-comes_before c =
    (settled _ _ _ _ (omega arith) c.nearest-near.ensures.0 (told _ _ _ _ c.place_at.ensures.0 c.name_at.ensures c.comes_before.ensures c.if-comes_before.true), omega (arith, c.nearest-near.ensures.1 (omega arith)))

pub overflow_add-result : goal.overflow_add-result
overflow_add-result c = omega (arith, c.nearest-near.ensures.1 (omega arith))

pub returns : goal.returns
returns c =
    (settled _ _ _ _ (omega arith) c.nearest-near.ensures.0 (told _ _ _ _ c.place_at.ensures.0 c.name_at.ensures c.comes_before.ensures c.if-comes_before.false), omega (arith, c.nearest-near.ensures.1 (omega arith)))
