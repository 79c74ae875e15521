-- Records in the order of their names: what inserting keeps, and that the arrangement is the only one.
use mathlib.Core.Bool.{Bool, true, false, false≢true}
use mathlib.Core.List.Memᴰ
use mathlib.Core.List.Memᴰ.{head}
use mathlib.Core.List.Memᴰ.{tail}
use mathlib.Core.List.{List, [], ◌∷◌, Memᴰ}
use mathlib.Core.Logic.{◌⊎◌, inl, inr}
use mathlib.Core.Path.{◌≡◌, refl, ap, ap₂, sym, ◌∙◌}
use Prim.Native.Nat.{ℕ, zero, suc, ◌+◌, ◌<◌, ◌≤◌}
use native.Mathlib.Omega.{arith}
use lib.ListN.{length, get_or}
use Rattle.paper.proofs.Choice.{either}
use Rattle.records.specs.Records.{Entry, same_name, comes_before}
use Rattle.records.proofs.Equal.{reflexive, symmetric}
use Rattle.records.proofs.Order.{through, not_both, not_itself, behind, unequal, not_before}
use Rattle.variables.proofs.Unique.{Apart, none, one}
use Rattle.indexes.specs.Indexes.{inserted, inserted_all}

-- each name comes before all those behind it
pub data Strict : List Entry → Type 0 where
  nothing : Strict []
  first : {e : Entry} {es : List Entry} → ((f : Entry) → Memᴰ f es → comes_before e.name f.name ≡ true) → Strict es → Strict (e ∷ es)

-- no name comes before one that stands before it
pub data Weak : List Entry → Type 0 where
  nothing : Weak []
  first : {e : Entry} {es : List Entry} → ((f : Entry) → Memᴰ f es → comes_before f.name e.name ≡ false) → Weak es → Weak (e ∷ es)

-- one record among others is one more of them
module _ (e : Entry) where
  pub from_inserted : (es : List Entry) {f : Entry} → Memᴰ f (inserted e es) → Memᴰ f (e ∷ es)
  unfolding inserted
  from_inserted [] m = m
  from_inserted (g ∷ gs) {f} m =
      either (λ l. Memᴰ f l → Memᴰ f (e ∷ g ∷ gs)) (comes_before e.name g.name) (λ _ k. k) (λ _. swapped (from_inserted gs)) m where
        swapped : (Memᴰ f (inserted e gs) → Memᴰ f (e ∷ gs)) → Memᴰ f (g ∷ inserted e gs) → Memᴰ f (e ∷ g ∷ gs)
        swapped on (head q) = tail (head q)
        swapped on (tail m) = back (on m) where
          back : Memᴰ f (e ∷ gs) → Memᴰ f (e ∷ g ∷ gs)
          back (head q) = head q
          back (tail m) = tail (tail m)

  pub to_inserted : (es : List Entry) {f : Entry} → Memᴰ f (e ∷ es) → Memᴰ f (inserted e es)
  unfolding inserted
  to_inserted [] m = m
  to_inserted (g ∷ gs) {f} m =
      either (Memᴰ f) (comes_before e.name g.name) (λ _. m) (λ _. swapped (to_inserted gs) m) where
        swapped : (Memᴰ f (e ∷ gs) → Memᴰ f (inserted e gs)) → Memᴰ f (e ∷ g ∷ gs) → Memᴰ f (g ∷ inserted e gs)
        swapped on (head q) = tail (on (head q))
        swapped on (tail (head q)) = head q
        swapped on (tail (tail m)) = tail (on (tail m))

  inserted_long : (es : List Entry) → length (inserted e es) ≡ suc (length es)
  unfolding inserted
  inserted_long [] = refl
  inserted_long (g ∷ gs) =
      either (λ (l : List Entry). length l ≡ suc (suc (length gs))) (comes_before e.name g.name) (λ _. refl) (λ _. ap suc (inserted_long gs))

-- record after record: those, those that stood there, and no other
pub among : (es sorted : List Entry) {f : Entry} → Memᴰ f (inserted_all es sorted) → Memᴰ f es ⊎ Memᴰ f sorted
unfolding inserted_all
among [] sorted m = inr m
among (e ∷ es) sorted {f} m = go (among es (inserted e sorted) m) where
  at_last : Memᴰ f (e ∷ sorted) → Memᴰ f (e ∷ es) ⊎ Memᴰ f sorted
  at_last (head q) = inl (head q)
  at_last (tail m) = inr m

  go : Memᴰ f es ⊎ Memᴰ f (inserted e sorted) → Memᴰ f (e ∷ es) ⊎ Memᴰ f sorted
  go (inl m) = inl (tail m)
  go (inr m) = at_last (from_inserted e sorted m)

pub kept : (es sorted : List Entry) {f : Entry} → Memᴰ f es ⊎ Memᴰ f sorted → Memᴰ f (inserted_all es sorted)
unfolding inserted_all
kept [] sorted (inl m) = absurd (Memᴰ.not-nil m)
kept [] sorted (inr m) = m
kept (e ∷ es) sorted (inl (head q)) = kept es (inserted e sorted) (inr (to_inserted e sorted (head q)))
kept (e ∷ es) sorted (inl (tail m)) = kept es (inserted e sorted) (inl m)
kept (e ∷ es) sorted (inr m) = kept es (inserted e sorted) (inr (to_inserted e sorted (tail m)))

-- into no others
pub among_these : (es : List Entry) {f : Entry} → Memᴰ f (inserted_all es []) → Memᴰ f es
among_these es {f} m = go (among es [] m) where
  go : Memᴰ f es ⊎ Memᴰ f [] → Memᴰ f es
  go (inl m) = m
  go (inr m) = absurd (Memᴰ.not-nil m)

pub all_long : (es sorted : List Entry) → length (inserted_all es sorted) ≡ length es + length sorted
unfolding inserted_all
all_long [] sorted = omega arith
all_long (e ∷ es) sorted = omega (arith, all_long es (inserted e sorted), inserted_long e sorted)

-- the order that inserting keeps whatever the names are
weak_one : (e : Entry) {es : List Entry} → Weak es → Weak (inserted e es)
unfolding inserted
weak_one e nothing = first (λ f m. absurd (Memᴰ.not-nil m)) nothing
weak_one e (first {e = g} {es = gs} b w) =
    either Weak (comes_before e.name g.name) (λ q. first (above q) (first b w)) (λ q. first (λ f m. below q f (from_inserted e gs m)) (weak_one e w)) where
      above : comes_before e.name g.name ≡ true → (f : Entry) → Memᴰ f (g ∷ gs) → comes_before f.name e.name ≡ false
      above q f (head p) = rw p (not_both e.name g.name q)
      above q f (tail m) = not_before e.name g.name f.name q (b f m)

      below : comes_before e.name g.name ≡ false → (f : Entry) → Memᴰ f (e ∷ gs) → comes_before f.name g.name ≡ false
      below q f (head p) = rw p q
      below q f (tail m) = b f m

pub weak_all : (es : List Entry) {sorted : List Entry} → Weak sorted → Weak (inserted_all es sorted)
unfolding inserted_all
weak_all [] w = w
weak_all (e ∷ es) w = weak_all es (weak_one e w)

-- names that are unequal either way
differ : (a b : List ℕ) → same_name a b ≡ false → same_name b a ≡ false
differ a b n = go (same_name b a) refl where
  go : (t : Bool) → same_name b a ≡ t → t ≡ false
  go true q = absurd (false≢true (sym n ∙ symmetric b a q))
  go false q = refl

-- and the one that it keeps where they are unequal
pub strict_one :
    (e : Entry) {es : List Entry} → Strict es → ((f : Entry) → Memᴰ f es → same_name f.name e.name ≡ false) →
    Strict (inserted e es)
unfolding inserted
strict_one e nothing n = first (λ f m. absurd (Memᴰ.not-nil m)) nothing
strict_one e (first {e = g} {es = gs} b s) n =
    either Strict (comes_before e.name g.name) (λ q. first (above q) (first b s))
    (λ q. first (λ f m. below q f (from_inserted e gs m)) (strict_one e s (λ f m. n f (tail m)))) where
      above : comes_before e.name g.name ≡ true → (f : Entry) → Memᴰ f (g ∷ gs) → comes_before e.name f.name ≡ true
      above q f (head p) = rw p q
      above q f (tail m) = through e.name g.name f.name q (b f m)

      below : comes_before e.name g.name ≡ false → (f : Entry) → Memᴰ f (e ∷ gs) → comes_before g.name f.name ≡ true
      below q f (head p) = rw p (behind e.name g.name q (differ g.name e.name (n g (head refl))))
      below q f (tail m) = b f m

pub strict_all :
    {es sorted : List Entry} → Strict sorted → Apart es →
    ((f g : Entry) → Memᴰ f sorted → Memᴰ g es → same_name f.name g.name ≡ false) → Strict (inserted_all es sorted)
unfolding inserted_all
strict_all s none n = s
strict_all {sorted = sorted} s (one {e = e} {es = es} d a) n =
    strict_all (strict_one e s (λ f m. n f e m (head refl))) a (λ f g m k. go f g (from_inserted e sorted m) k) where
      go : (f g : Entry) → Memᴰ f (e ∷ sorted) → Memᴰ g es → same_name f.name g.name ≡ false
      go f g (head p) k = rw p (d g k)
      go f g (tail m) k = n f g m (tail k)

pub strict_order : {es : List Entry} → Apart es → Strict (inserted_all es [])
strict_order a = strict_all nothing a (λ f g m k. absurd (Memᴰ.not-nil m))

-- a name before the first is before all
pub strict_more : {e f : Entry} {fs : List Entry} → comes_before e.name f.name ≡ true → Strict (f ∷ fs) → Strict (e ∷ f ∷ fs)
strict_more {e} {f} {fs} h (first b s) = first each (first b s) where
  each : (g : Entry) → Memᴰ g (f ∷ fs) → comes_before e.name g.name ≡ true
  each g (head p) = rw p h
  each g (tail m) = through e.name f.name g.name h (b g m)

-- two that stand side by side
pub strict_at :
    {es : List Entry} → Strict es → (k : ℕ) (d : Entry) → k + 1 < length es →
    comes_before (get_or es k d).name (get_or es (k + 1) d).name ≡ true
strict_at nothing k d h = absurd (omega arith)
strict_at (first b nothing) k d h = absurd (omega arith)
strict_at (first b (first c s)) zero d h = b _ (head refl)
strict_at (first b (first c s)) (suc k) d h =
    let on : suc k + 1 ≡ suc (k + 1) = omega arith in
    rw on (strict_at (first c s) k d (omega arith))

-- two of them with equal names are one
pub unlike :
    {es : List Entry} {e f : Entry} → Strict es → Memᴰ e es → Memᴰ f es → (e ≡ f → ⊥) → same_name e.name f.name ≡ false
unlike (first b s) (head p) (head q) n = absurd (n (p ∙ sym q))
unlike {f = f} (first {e = g} b s) (head p) (tail k) n = rw p (unequal g.name f.name (b f k))
unlike {e = e} (first {e = g} b s) (tail m) (head q) n = rw q (differ g.name e.name (unequal g.name e.name (b e m)))
unlike (first b s) (tail m) (tail k) n = unlike s m k n
unlike nothing m k n = absurd (Memᴰ.not-nil m)

-- the arrangement is the only one: records in a strict order, all of them among as many others that are in order, are those
later : {f g : Entry} {gs : List Entry} → Memᴰ f (g ∷ gs) → (f ≡ g → ⊥) → Memᴰ f gs
later (head p) n = absurd (n p)
later (tail m) n = m

pub only : {es fs : List Entry} → Strict es → Weak fs → ((f : Entry) → Memᴰ f es → Memᴰ f fs) → length fs ≤ length es → es ≡ fs
only nothing nothing within few = refl
only nothing (first c w) within few = absurd (omega arith)
only (first b s) nothing within few = absurd (Memᴰ.not-nil (within _ (head refl)))
only (first {e = e} {es = es} b s) (first {e = g} {es = gs} c w) within few = go (within e (head refl)) (only s w) (only (first b s) w) where
  -- none of those behind the first is itself the first
  not_first : e ≡ g → (f : Entry) → Memᴰ f es → f ≡ g → ⊥
  not_first q f m p =
      let same : f ≡ e = p ∙ sym q in
      false≢true (sym (not_itself e.name f.name (rw same (reflexive e.name))) ∙ b f m)

  -- nor is any where the first is behind it
  not_behind : Memᴰ e gs → (f : Entry) → Memᴰ f es → f ≡ g → ⊥
  not_behind k f m p = false≢true (sym (c e k) ∙ ap (λ x. comes_before e.name x.name) (sym p) ∙ b f m)

  all_behind : Memᴰ e gs → (f : Entry) → Memᴰ f (e ∷ es) → Memᴰ f gs
  all_behind k f (head p) = Memᴰ.cast p k
  all_behind k f (tail m) = later (within f (tail m)) (not_behind k f m)

  go :
      Memᴰ e (g ∷ gs) →
      (((f : Entry) → Memᴰ f es → Memᴰ f gs) → length gs ≤ length es → es ≡ gs) →
      (((f : Entry) → Memᴰ f (e ∷ es) → Memᴰ f gs) → length gs ≤ length (e ∷ es) → e ∷ es ≡ gs) →
      e ∷ es ≡ g ∷ gs
  go (head q) on over = ap₂ ◌∷◌ q (on (λ f m. later (within f (tail m)) (not_first q f m)) (omega arith))
  go (tail k) on over = absurd (omega (arith, ap length (over (all_behind k) (omega arith))))
