-- An index whose entries rise: the records that it leads to are in a strict order, and it is the bytes of their places. And the index of
-- records in a strict order rises.
use mathlib.Core.Bool.{true}
use mathlib.Core.List.Memᴰ
use mathlib.Core.List.Memᴰ.{head}
use mathlib.Core.List.Memᴰ.{tail}
use mathlib.Core.List.{List, [], ◌∷◌, Memᴰ, append-nil}
use mathlib.Core.Path.{◌≡◌, refl, ap, ap₂, sym, ◌∙◌}
use Prim.Native.Nat.{ℕ, zero, suc, ◌+◌, ◌*◌, ◌/◌, ◌%◌, ◌<◌, ◌≤◌}
use native.Mathlib.Omega.{arith}
use lib.ListN.{length, get_or}
use Rattle.paper.specs.declared.bits.Bits.{Bits}
use Rattle.records.specs.Records.{Entry, entry_at, name_at, comes_before}
use Rattle.indexes.specs.Indexes.{place_bytes}
use Rattle.indexes.specs.inner.Halving.{place_in, name_in}
use Rattle.indexes.proofs.Entries.{place_in_lem}
use Rattle.indexes.proofs.Sorting.{Strict, nothing, first, strict_more, strict_at}
use Rattle.lookups.specs.inner.Fitting.{marked, Rises}
use Rattle.lookups.proofs.MarkLaws.{Low}

-- the records that an index's entries lead to
abbrev pub led : List ℕ → List ℕ → List Entry
led table [] = []
led table (low ∷ []) = []
led table (low ∷ high ∷ rest) = entry_at table (low + 256 * high) ∷ led table rest

pub led_long : (table index : List ℕ) (n : ℕ) → length index ≡ 2 * n → length (led table index) ≡ n
led_long table [] n l = omega arith
led_long table (low ∷ []) n l = absurd (omega arith)
led_long table (low ∷ high ∷ rest) zero l = absurd (omega arith)
led_long table (low ∷ high ∷ rest) (suc n) l = ap suc (led_long table rest n (omega arith))

-- two bytes make a place, and a place is these two
pub led_bytes : (table index : List ℕ) (n : ℕ) → length index ≡ 2 * n → ((k : ℕ) → get_or index k 0 ≤ 255) → index ≡ place_bytes (led table index)
unfolding entry_at
led_bytes table [] n l bytes = refl
led_bytes table (low ∷ []) n l bytes = absurd (omega arith)
led_bytes table (low ∷ high ∷ rest) zero l bytes = absurd (omega arith)
led_bytes table (low ∷ high ∷ rest) (suc n) l bytes =
    let small : low ≤ 255 = bytes 0 in
    let further = led_bytes table rest n (omega arith) (λ k. bytes (suc (suc k))) in
    let first_byte : low ≡ (low + 256 * high) % 256 = omega arith in
    let second_byte : high ≡ (low + 256 * high) / 256 = omega arith in
    ap₂ ◌∷◌ first_byte (ap₂ ◌∷◌ second_byte further)

-- behind the first entry
place_later : (low high : ℕ) (rest : List ℕ) (k : ℕ) → place_in (low ∷ high ∷ rest) (suc k) ≡ place_in rest k
unfolding place_in
place_later low high rest k =
    let one : 2 * suc k ≡ suc (suc (2 * k)) = omega arith in
    let two : 2 * suc k + 1 ≡ suc (suc (2 * k + 1)) = omega arith in
    ap₂ (λ i j. get_or (low ∷ high ∷ rest) i 0 + 256 * get_or (low ∷ high ∷ rest) j 0) one two

module _ (table : List ℕ) (marks : Bits 2048) where
  behind_first : (low high : ℕ) (rest : List ℕ) {n : ℕ} → Rises table marks (low ∷ high ∷ rest) (suc n) → Rises table marks rest n
  behind_first low high rest {n} r =
      record { places = λ k h. ap (marked marks) (sym (place_later low high rest k)) ∙ r.places (suc k) (omega arith); rising = rising_later } where
        rising_later : (k : ℕ) → k + 1 < n → comes_before (name_in table rest k) (name_in table rest (k + 1)) ≡ true
        rising_later k h =
            let on : suc k + 1 ≡ suc (k + 1) = omega arith in
            let second : place_in (low ∷ high ∷ rest) (suc k + 1) ≡ place_in rest (k + 1) =
            ap (place_in (low ∷ high ∷ rest)) on ∙ place_later low high rest (k + 1) in
            ap₂ (λ a b. comes_before (name_at table a) (name_at table b)) (sym (place_later low high rest k)) (sym second)
            ∙ r.rising (suc k) (omega arith)

  pub led_strict : (index : List ℕ) (n : ℕ) → length index ≡ 2 * n → Rises table marks index n → Strict (led table index)
  unfolding place_in entry_at
  led_strict [] n l r = nothing
  led_strict (low ∷ []) n l r = nothing
  led_strict (low ∷ high ∷ []) n l r = first (λ f m. absurd (Memᴰ.not-nil m)) nothing
  led_strict (low ∷ high ∷ (low₁ ∷ [])) n l r = absurd (omega arith)
  led_strict (low ∷ high ∷ (low₁ ∷ high₁ ∷ rest)) zero l r = absurd (omega arith)
  led_strict (low ∷ high ∷ (low₁ ∷ high₁ ∷ rest)) (suc n) l r =
      strict_more (r.rising 0 (omega arith)) (led_strict (low₁ ∷ high₁ ∷ rest) n (omega arith) (behind_first low high (low₁ ∷ high₁ ∷ rest) r))

  -- each of them starts at a marked place
  pub record Marked (f : Entry) : Type 0 where
    pub place : ℕ
    pub starts : f ≡ entry_at table place
    pub there : marked marks place ≡ true
    pub low : place ≤ 65535

  pub led_marked :
      (index : List ℕ) (n : ℕ) → length index ≡ 2 * n → ((k : ℕ) → get_or index k 0 ≤ 255) → Rises table marks index n →
      {f : Entry} → Memᴰ f (led table index) → Marked f
  unfolding place_in
  led_marked [] n l bytes r m = absurd (Memᴰ.not-nil m)
  led_marked (low ∷ []) n l bytes r m = absurd (Memᴰ.not-nil m)
  led_marked (low ∷ high ∷ rest) zero l bytes r m = absurd (omega arith)
  led_marked (low ∷ high ∷ rest) (suc n) l bytes r (head q) =
      let small : low ≤ 255 = bytes 0 in
      let small_too : high ≤ 255 = bytes 1 in
      record { place = low + 256 * high; starts = q; there = r.places 0 (omega arith); low = omega arith }
  led_marked (low ∷ high ∷ rest) (suc n) l bytes r (tail m) =
      led_marked rest n (omega arith) (λ k. bytes (suc (suc k))) (behind_first low high rest r) m

  -- the other way
  module _
      {es : List Entry} (s : Strict es) (low : Low es) (starts : (e : Entry) → Memᴰ e es → e ≡ entry_at table e.place)
      (there : (e : Entry) → Memᴰ e es → marked marks e.place ≡ true) where
    d : Entry
    d = entry_at table 0

    placed : (k : ℕ) → k < length es → place_in (place_bytes es) k ≡ (get_or es k d).place
    placed k h = ap (λ l. place_in l k) (sym (append-nil (place_bytes es))) ∙ place_in_lem es [] k d low h

    one_of : (fs : List Entry) (k : ℕ) → k < length fs → Memᴰ (get_or fs k d) fs
    one_of [] k h = absurd (omega arith)
    one_of (f ∷ fs) zero h = head refl
    one_of (f ∷ fs) (suc k) h = tail (one_of fs k (omega arith))

    named : (k : ℕ) → k < length es → name_in table (place_bytes es) k ≡ (get_or es k d).name
    unfolding entry_at
    named k h = ap (name_at table) (placed k h) ∙ sym (ap (λ x. x.name) (starts (get_or es k d) (one_of es k h)))

    pub risen : Rises table marks (place_bytes es) (length es)
    risen =
        record {
          places = λ k h. ap (marked marks) (placed k h) ∙ there (get_or es k d) (one_of es k h);
          rising = λ k h. ap₂ comes_before (named k (omega arith)) (named (k + 1) h) ∙ strict_at s k d h;
        }
