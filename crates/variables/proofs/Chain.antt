-- Records that lie one behind the other: a walk meets exactly them, and those before one of them are a walk's up to it.
use mathlib.Core.List.Memᴰ.{head}
use mathlib.Core.List.Memᴰ.{tail}
use mathlib.Core.List.{List, [], ◌∷◌, ◌++◌, Memᴰ}
use mathlib.Core.Path.{◌≡◌, refl, ap, sym, subst, ◌∙◌}
use Prim.Native.Nat.{ℕ, zero, suc, ◌≤◌}
use native.Mathlib.Omega.{arith}
use borrow.Author.Tests.{lt-ltb, le-ltb}
use lib.ListN.{length}
use Rattle.records.specs.Records.{next_place, Entry, entry_at}
use Rattle.variables.specs.Tables.{entries}

-- behind `stop` no record starts
pub none_left : (table : List ℕ) (stop place left : ℕ) → stop ≤ place → entries left table stop place ≡ []
unfolding entries
none_left table stop place zero h = refl
none_left table stop place (suc left) h = rw (le-ltb place stop h)

-- from a place up to `stop`
pub data Chain (table : List ℕ) (stop : ℕ) : ℕ → List Entry → Type 0 where
  end : {place : ℕ} → place ≡ stop → Chain table stop place []
  next : {place : ℕ} {es : List Entry} → Chain table stop (next_place table place) es → Chain table stop place (entry_at table place ∷ es)

-- the place of a record, as its entry keeps it
pub place_of : (table : List ℕ) (place : ℕ) → (entry_at table place).place ≡ place
unfolding entry_at
place_of table place = refl

-- a chain at one of its records
pub record Split (table : List ℕ) (place : ℕ) (es : List Entry) (e : Entry) : Type 0 where
  pub front : List Entry
  pub back : List Entry
  pub whole : es ≡ front ++ (e ∷ back)
  pub up_to : Chain table e.place place front

module _ {table : List ℕ} where
  pub within : {stop place : ℕ} {es : List Entry} → Chain table stop place es → place ≤ stop
  within (end e) = omega arith
  within (next r) = omega (arith, within r)

  pub exact : {stop place : ℕ} {es : List Entry} (left : ℕ) → Chain table stop place es → length es ≤ left → entries left table stop place ≡ es
  unfolding entries
  exact {stop} {place} left (end e) h = none_left table stop place left (omega arith)
  exact zero (next r) h = absurd (omega arith)
  exact {stop} {place} (suc left) (next r) h = rw (lt-ltb place stop (omega (arith, within r)), exact left r (omega arith))

  -- a record of a chain starts at its place, not before the chain does
  pub later : {stop place : ℕ} {es : List Entry} {e : Entry} → Chain table stop place es → Memᴰ e es → place ≤ e.place
  later (end _) m = elim m [ ]
  later {place = place} (next r) (head q) = omega (arith, ap (λ x. x.place) q, place_of table place)
  later (next r) (tail m) = omega (arith, later r m)

  pub starts : {stop place : ℕ} {es : List Entry} {e : Entry} → Chain table stop place es → Memᴰ e es → e ≡ entry_at table e.place
  starts (end _) m = elim m [ ]
  starts {place = place} (next r) (head q) = q ∙ ap (entry_at table) (sym (ap (λ x. x.place) q ∙ place_of table place))
  starts (next r) (tail m) = starts r m

  pub split : {stop place : ℕ} {es : List Entry} {e : Entry} → Chain table stop place es → Memᴰ e es → Split table place es e
  split (end _) m = elim m [ ]
  split {place = place} (next {es = es} r) (head q) =
      record { front = []; back = es; whole = ap (λ x. x ∷ es) (sym q); up_to = end (sym (ap (λ x. x.place) q ∙ place_of table place)) }
  split {place = place} (next r) (tail m) =
      let s = split r m in
      record { front = entry_at table place ∷ s.front; back = s.back; whole = ap (◌∷◌ (entry_at table place)) s.whole; up_to = next s.up_to }

  -- one record more at the end
  pub snoc : {stop place : ℕ} {es : List Entry} → Chain table stop place es → Chain table (next_place table stop) place (es ++ (entry_at table stop ∷ []))
  snoc {place = place} (end e) = subst (λ s. Chain table (next_place table s) place (entry_at table s ∷ [])) e (next (end refl))
  snoc (next r) = next (snoc r)
