-- One more entry in an index: at the place that halving finds the record stands where inserting puts it, and the bytes go with it.
use mathlib.Core.Bool.{Bool, true, false, cond, false≢true}
use mathlib.Core.List.{List, [], ◌∷◌, ◌++◌, append_assoc}
use mathlib.Core.Path.{◌≡◌, refl, ap, sym, subst, ◌∙◌}
use Prim.Native.Nat.{ℕ, zero, suc, ◌+◌, ◌*◌, ◌/◌, ◌%◌, ◌<◌, ◌≤◌}
use native.Mathlib.Decide.{dec_lt, ℕ_discrete}
use native.Mathlib.Omega.{arith}
use borrow.Author.Tests.{lt-ltb, le-ltb}
use lib.ListN.{length, get_or, take, drop, take-append-drop}
use lib.Seq.{drop-append-add, take_at, drop_at, length-take-le}
use Rattle.records.specs.Records.{Entry, name_at, entry_at, comes_before}
use Rattle.indexes.specs.Indexes.{inserted, place_bytes}
use Rattle.indexes.specs.inner.Halving.{name_in, slot_in, with_entry}
use Rattle.indexes.proofs.Entries.{Rising, Near, halved, not_later_to}
use Rattle.indexes.proofs.Searching.{Listed, name_in_lem, rising, bytes_long}
use Rattle.indexes.proofs.Sorting.{Strict}

-- where a record is put: behind those that its name does not come before
inserted_at :
    (e d : Entry) (es : List Entry) (slot : ℕ) → slot ≤ length es →
    ((k : ℕ) → k < slot → comes_before e.name (get_or es k d).name ≡ false) →
    (slot < length es → comes_before e.name (get_or es slot d).name ≡ true) →
    inserted e es ≡ take slot es ++ (e ∷ drop slot es)
unfolding inserted
inserted_at e d [] zero h before here = refl
inserted_at e d [] (suc slot) h before here = absurd (omega arith)
inserted_at e d (f ∷ es) zero h before here = rw (here (omega arith))
inserted_at e d (f ∷ es) (suc slot) h before here =
    rw (before 0 (omega arith)) (ap (◌∷◌ f) (inserted_at e d es slot (omega arith) (λ k b. before (suc k) (omega arith)) (λ b. here (omega arith))))

-- where a name goes among so many entries whose names rise
pub record Slot (table index name : List ℕ) (count slot : ℕ) : Type 0 where
  pub inside : slot ≤ count
  pub before : (k : ℕ) → k < slot → comes_before name (name_in table index k) ≡ false
  pub here : slot < count → comes_before name (name_in table index slot) ≡ true

module _ (table index name : List ℕ) (count : ℕ) (rise : Rising table index count) where
  slot_near : {near : ℕ} → Near table index name count near → (t : Bool) → comes_before name (name_in table index near) ≡ t → Slot table index name count (cond t near (near + 1))
  slot_near {near} n true q = go (ℕ_discrete near 0) where
    go : Dec (near ≡ 0) → Slot table index name count near
    go (yes z) = record { inside = omega (arith, n.inside); before = λ k b. absurd (omega arith); here = λ _. q }
    go (no z) = absurd (false≢true (sym (n.not_later z) ∙ q))
  slot_near {near} n false q =
      record {
        inside = omega (arith, n.inside);
        before = λ k b. not_later_to table index name count rise n q k (omega arith);
        here = λ b. n.behind (near + 1) (omega arith) b;
      }

  pub slot_so : count ≤ 256 → Slot table index name count (slot_in table index count name)
  unfolding slot_in
  slot_so few = go (dec_lt 0 count)
    where
      go : Dec (0 < count) → Slot table index name count (slot_in table index count name)
      go (yes h) = rw (lt-ltb 0 count h) (slot_near (halved table index name count rise h few) _ refl)
      go (no h) = rw (le-ltb 0 count (omega arith)) (record { inside = omega arith; before = λ k b. absurd (omega arith); here = λ b. absurd (omega arith) })

-- the places of records, by parts
bytes_append : (es fs : List Entry) → place_bytes (es ++ fs) ≡ place_bytes es ++ place_bytes fs
bytes_append [] fs = refl
bytes_append (e ∷ es) fs = ap (λ bytes. e.place % 256 ∷ e.place / 256 ∷ bytes) (bytes_append es fs)

bytes_split : (slot : ℕ) (es : List Entry) → place_bytes es ≡ place_bytes (take slot es) ++ place_bytes (drop slot es)
bytes_split slot es = ap place_bytes (sym (take-append-drop slot es)) ∙ bytes_append (take slot es) (drop slot es)

module _ (slot : ℕ) (es : List Entry) (h : slot ≤ length es) where
  front_long : length (place_bytes (take slot es)) ≡ 2 * slot
  front_long = bytes_long (take slot es) ∙ ap (λ n. 2 * n) (length-take-le slot es h)

  bytes_front : (rest : List ℕ) → take (2 * slot) (place_bytes es ++ rest) ≡ place_bytes (take slot es)
  bytes_front rest =
      ap (λ bytes. take (2 * slot) (bytes ++ rest)) (bytes_split slot es)
      ∙ ap (take (2 * slot)) (append_assoc (place_bytes (take slot es)) (place_bytes (drop slot es)) rest)
      ∙ take_at (place_bytes (take slot es)) (place_bytes (drop slot es) ++ rest) (2 * slot) front_long

  bytes_back : drop (2 * slot) (place_bytes es) ≡ place_bytes (drop slot es)
  bytes_back = ap (drop (2 * slot)) (bytes_split slot es) ∙ drop_at (place_bytes (take slot es)) (place_bytes (drop slot es)) (2 * slot) front_long

-- an entry among those of an index
entered :
    (e : Entry) (es : List Entry) (rest : List ℕ) (slot : ℕ) → slot ≤ length es →
    with_entry slot (length es) e.place (place_bytes es ++ rest) ≡ place_bytes (take slot es ++ (e ∷ drop slot es)) ++ drop 2 rest
unfolding with_entry
entered e es rest slot h =
    let all : take (2 * length es) (place_bytes es ++ rest) ≡ place_bytes es = take_at (place_bytes es) rest (2 * length es) (bytes_long es) in
    let back : drop (2 * length es + 2) (place_bytes es ++ rest) ≡ drop 2 rest =
    ap (λ n. drop (n + 2) (place_bytes es ++ rest)) (sym (bytes_long es)) ∙ drop-append-add (place_bytes es) rest 2 in
    rw (bytes_front slot es h rest, all, bytes_back slot es h, back, bytes_append (take slot es) (e ∷ drop slot es))
    (sym (append_assoc (place_bytes (take slot es)) (e.place % 256 ∷ e.place / 256 ∷ place_bytes (drop slot es)) (drop 2 rest)))

-- what laying one more record comes to
pub inserted_bytes :
    (table : List ℕ) (place : ℕ) (es : List Entry) (rest : List ℕ) → Listed table es → Strict es → length es ≤ 256 →
    with_entry (slot_in table (place_bytes es ++ rest) (length es) (name_at table place)) (length es) place (place_bytes es ++ rest)
    ≡ place_bytes (inserted (entry_at table place) es) ++ drop 2 rest
unfolding entry_at
inserted_bytes table place es rest l s few =
    let e : Entry = entry_at table place in
    let index : List ℕ = place_bytes es ++ rest in
    let named : (k : ℕ) → k < length es → name_in table index k ≡ (get_or es k e).name = name_in_lem table es rest e l in
    let slot : ℕ = slot_in table index (length es) e.name in
    let so = slot_so table index e.name (length es) (rising table es rest e l s) few in
    let put = inserted_at e e es slot so.inside
    (λ k b. subst (λ n. comes_before e.name n ≡ false) (named k (omega (arith, so.inside))) (so.before k b))
    (λ b. subst (λ n. comes_before e.name n ≡ true) (named slot b) (so.here b)) in
    entered e es rest slot so.inside ∙ ap (λ fs. place_bytes fs ++ drop 2 rest) (sym put)
