-- `search` meets its contract: the nearest entry's record, where it has the name.
use mathlib.Core.Bool.{Bool, cond}
use mathlib.Core.List.{List}
use mathlib.Core.Path.{◌≡◌, ap, sym, ◌∙◌}
use Prim.Native.Nat.{ℕ, ◌<◌, ◌≤◌}
use borrow.Author.Tests.{lt-ltb, le-ltb}
use Rattle.records.specs.Records.{name_at, same_name, entry_at}
use Rattle.variables.specs.Tables.{absent, present}
use Rattle.std.specs.Prelude.{Some}
use Rattle.indexes.specs.inner.Halving.{halvings, place_in, nearest, count_in, searched, match_in}
use Rattle.indexes.proofs.search.Goals as goal

module _ (table index name : List ℕ) {count : ℕ} (so : count ≡ count_in index) where
  -- what the comparison with the nearest name settles
  settled :
      {near place : ℕ} {t : Bool} → 0 < count → near ≡ nearest halvings table index name 0 count → place ≡ place_in index near →
      same_name (name_at table place) name ≡ t → cond t (present (entry_at table place)) absent ≡ searched table index name
  unfolding searched
  settled some e q s = rw (← so, lt-ltb 0 count some, ← e, ← q, s)

  nothing : count ≤ 0 → absent ≡ searched table index name
  unfolding searched
  nothing h = rw (← so, le-ltb 0 count h)

  -- the same from what the calls ensure
  found :
      {near place : ℕ} {at : List ℕ} {b t : Bool} → 0 < count → near ≡ nearest halvings table index name 0 count →
      place ≡ place_in index near → at ≡ name_at table place → b ≡ same_name at name → b ≡ t →
      cond t (present (entry_at table place)) absent ≡ searched table index name
  found some e q n s r = settled some e q (ap (λ a. same_name a name) (sym n) ∙ sym s ∙ r)

pub returns-then-same_name : goal.returns-then-same_name
returns-then-same_name c =
    ap Some c.variable_at.ensures
    ∙ ap (match_in _)
    (found _ _ _ c.count_of-count.ensures.0 c.if-count-gt0.true c.nearest.ensures.0 c.place_at-place.ensures.0 c.name_at.ensures
    c.same_name.ensures c.if-same_name.true)

pub returns-else-same_name : goal.returns-else-same_name
returns-else-same_name c =
    ap (match_in _)
    (found _ _ _ c.count_of-count.ensures.0 c.if-count-gt0.true c.nearest.ensures.0 c.place_at-place.ensures.0 c.name_at.ensures
    c.same_name.ensures c.if-same_name.false)

pub returns-else-count-gt0 : goal.returns-else-count-gt0
returns-else-count-gt0 c = ap (match_in _) (nothing _ _ _ c.count_of-count.ensures.0 c.if-count-gt0.false)
