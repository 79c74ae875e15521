-- Marks of places: a marked place is a record's, and each record's place is marked.
use mathlib.Core.Bool.{true, or-true, false≢true}
use mathlib.Core.List.Memᴰ.{head}
use mathlib.Core.List.Memᴰ.{tail}
use mathlib.Core.List.{List, [], ◌∷◌, Memᴰ}
use mathlib.Core.Path.{◌≡◌, refl, ap, sym}
use Prim.Native.Nat.{ℕ, ◌≤◌}
use native.Mathlib.Decide.{ℕ_discrete}
use borrow.Author.Tests.{eq-eqb, ne_eqb}
use lib.Dec.{eqb}
use Rattle.paper.specs.declared.bits.Bits.{Bits}
use Rattle.records.specs.Records.{Entry}
use Rattle.lookups.specs.inner.Fitting.{marked, starts_one}

abbrev pub Low : List Entry → Type 0
Low es = (e : Entry) → Memᴰ e es → e.place ≤ 65535

-- these are the places of some records, and no others
abbrev pub MarksOf : List Entry → Bits 2048 → Type 0
MarksOf es marks = (place : ℕ) → marked marks place ≡ starts_one es place

-- a record that starts at a place
pub record At (es : List Entry) (place : ℕ) : Type 0 where
  pub entry : Entry
  pub among : Memᴰ entry es
  pub there : entry.place ≡ place

pub at_from : (es : List Entry) (place : ℕ) → starts_one es place ≡ true → At es place
at_from [] place e = absurd (false≢true e)
at_from (f ∷ es) place e = go (ℕ_discrete place f.place) (at_from es place) where
  go : Dec (place ≡ f.place) → (starts_one es place ≡ true → At es place) → At (f ∷ es) place
  go (yes q) further = record { entry = f; among = head refl; there = sym q }
  go (no n) further =
      let a = further (rw (ne_eqb place f.place n) at e) in
      record { entry = a.entry; among = tail a.among; there = a.there }

pub starts_here : (es : List Entry) {e : Entry} → Memᴰ e es → starts_one es e.place ≡ true
starts_here [] m = elim m [ ]
starts_here (f ∷ es) {e} (head q) = rw (eq-eqb e.place f.place (ap (λ x. x.place) q))
starts_here (f ∷ es) {e} (tail m) = rw (starts_here es m) (or-true (eqb e.place f.place))
