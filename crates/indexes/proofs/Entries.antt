-- The entries of an index as numbers: what an index that holds some records' places gives, and what halving comes to among names that rise.
use mathlib.Core.Bool.{Bool, true, false}
use mathlib.Core.List.Memᴰ.{head}
use mathlib.Core.List.Memᴰ.{tail}
use mathlib.Core.List.{List, [], ◌∷◌, ◌++◌, Memᴰ}
use mathlib.Core.Path.{◌≡◌, refl, ap₂, sym, subst, ◌∙◌}
use Prim.Native.Nat.{ℕ, zero, suc, ◌+◌, ◌*◌, ◌-◌, ◌/◌, ◌%◌, ◌^◌, ◌<◌, ◌≤◌}
use native.Mathlib.Decide.{ℕ_discrete}
use native.Mathlib.Omega.{arith}
use borrow.Author.Tests.{ltb-true, ltb-false}
use lib.Dec.{ltb}
use lib.ListN.{length, get_or}
use Rattle.records.specs.Records.{Entry, comes_before}
use Rattle.records.proofs.Order.{through, not_before}
use Rattle.indexes.specs.Indexes.{place_bytes}
use Rattle.indexes.specs.inner.Halving.{place_in, name_in, nearest}

-- two bytes more before an index
place_on : (low high : ℕ) (index : List ℕ) (k : ℕ) → place_in (low ∷ high ∷ index) (suc k) ≡ place_in index k
unfolding place_in
place_on low high index k =
    let even : 2 * suc k ≡ suc (suc (2 * k)) = omega arith in
    let odd : 2 * suc k + 1 ≡ suc (suc (2 * k + 1)) = omega arith in
    ap₂ (λ i j. get_or (low ∷ high ∷ index) i 0 + 256 * get_or (low ∷ high ∷ index) j 0) even odd

place_first : (place : ℕ) (index : List ℕ) → place ≤ 65535 → place_in (place % 256 ∷ place / 256 ∷ index) 0 ≡ place
unfolding place_in
place_first place index h = omega arith

-- an index of some records gives their places
pub place_in_lem :
    (es : List Entry) (rest : List ℕ) (k : ℕ) (d : Entry) → ((e : Entry) → Memᴰ e es → e.place ≤ 65535) → k < length es →
    place_in (place_bytes es ++ rest) k ≡ (get_or es k d).place
place_in_lem [] rest k d low h = absurd (omega arith)
place_in_lem (e ∷ es) rest zero d low h = place_first e.place (place_bytes es ++ rest) (low e (head refl))
place_in_lem (e ∷ es) rest (suc k) d low h =
    place_on _ _ (place_bytes es ++ rest) k ∙ place_in_lem es rest k d (λ f m. low f (tail m)) (omega arith)

-- the names of so many entries rise
abbrev pub Rising : List ℕ → List ℕ → ℕ → Type 0
Rising table index count = (i j : ℕ) → i < j → j < count → comes_before (name_in table index i) (name_in table index j) ≡ true

-- what halving comes to, where a name's standing before the entries' names is told by some test of their numbers
module _ (table index name : List ℕ) where
  abbrev later : ℕ → Bool
  later k = comes_before name (name_in table index k)

  -- among the entries from `first` on, of which there are `size`, lies the last that is not later, if there is one
  pub record Lies (count first size : ℕ) : Type 0 where
    pub some : 0 < size
    pub inside : first + size ≤ count
    pub not_later : (first ≡ 0 → ⊥) → later first ≡ false
    pub behind : (k : ℕ) → first + size ≤ k → k < count → later k ≡ true

  -- the entry that is found
  pub record Near (count near : ℕ) : Type 0 where
    pub inside : near < count
    pub not_later : (near ≡ 0 → ⊥) → later near ≡ false
    pub behind : (k : ℕ) → near < k → k < count → later k ≡ true

  module _ (count : ℕ) (rising : Rising table index count) where
    -- where the one in the middle is later, so are those behind it
    later_on : (i j : ℕ) → i ≤ j → j < count → later i ≡ true → later j ≡ true
    later_on i j h k e = go (ℕ_discrete i j) where
      go : Dec (i ≡ j) → later j ≡ true
      go (yes q) = subst (λ k. later k ≡ true) q e
      go (no n) = through name (name_in table index i) (name_in table index j) e (rising i j (omega arith) k)

    lower : {first size : ℕ} → Lies count first size → 1 < size → later (first + size / 2) ≡ true → Lies count first (size / 2)
    lower {first} {size} l h e =
        record {
          some = omega arith;
          inside = omega (arith, l.inside);
          not_later = l.not_later;
          behind = λ k b i. later_on (first + size / 2) k b i e;
        }

    upper : {first size : ℕ} → Lies count first size → 1 < size → later (first + size / 2) ≡ false → Lies count (first + size / 2) (size - size / 2)
    upper {first} {size} l h e =
        record {
          some = omega arith;
          inside = omega (arith, l.inside);
          not_later = λ _. e;
          behind = λ k b i. l.behind k (omega arith) i;
        }

    pub nears : (more : ℕ) {first size : ℕ} → size ≤ 2 ^ more → Lies count first size → Near count (nearest more table index name first size)
    unfolding nearest
    nears zero {first} {size} h l =
        record {
          inside = omega (arith, l.inside, l.some);
          not_later = l.not_later;
          behind = λ k b i. l.behind k (omega (arith, h)) i;
        }
    nears (suc more) {first} {size} h l = go (ltb 1 size) refl (later (first + size / 2)) refl (nears more) (nears more) where
      go :
          (b : Bool) → ltb 1 size ≡ b → (t : Bool) → later (first + size / 2) ≡ t →
          (size / 2 ≤ 2 ^ more → Lies count first (size / 2) → Near count (nearest more table index name first (size / 2))) →
          (size - size / 2 ≤ 2 ^ more → Lies count (first + size / 2) (size - size / 2) → Near count (nearest more table index name (first + size / 2) (size - size / 2))) →
          Near count (nearest (suc more) table index name first size)
      go true q true r low high = rw (q, r) (low (omega (arith, h)) (lower l (ltb-true 1 size q) r))
      go true q false r low high = rw (q, r) (high (omega (arith, h)) (upper l (ltb-true 1 size q) r))
      go false q t r low high =
          rw q (
          record {
            inside = omega (arith, l.inside, l.some);
            not_later = l.not_later;
            behind = λ k b i. l.behind k (omega (arith, ltb-false 1 size q)) i;
          }
          )

    -- halving finds, of up to 256 entries, the last that is not later
    pub halved : 0 < count → count ≤ 256 → Near count (nearest 8 table index name 0 count)
    halved some few =
        nears 8 (omega arith) (record { some = some; inside = omega arith; not_later = λ n. absurd (n refl); behind = λ k b i. absurd (omega arith) })

    -- those before it are not later either
    pub not_later_to : {near : ℕ} → Near count near → later near ≡ false → (k : ℕ) → k ≤ near → later k ≡ false
    not_later_to {near} n e k h = go (ℕ_discrete k near) where
      go : Dec (k ≡ near) → later k ≡ false
      go (yes q) = subst (λ k. later k ≡ false) (sym q) e
      go (no m) = not_before (name_in table index k) (name_in table index near) name (rising k near (omega arith) n.inside) e
