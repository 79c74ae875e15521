-- A search through a table's own index finds what a look-up in the table finds.
use mathlib.Core.Bool.{Bool, true, false, cond, false≢true}
use mathlib.Core.List.Memᴰ.{head}
use mathlib.Core.List.Memᴰ.{tail}
use mathlib.Core.List.{List, [], ◌∷◌, ◌++◌, append-nil, Memᴰ}
use mathlib.Core.Logic.{inl}
use mathlib.Core.Path.{◌≡◌, refl, ap, sym, subst, ◌∙◌}
use Prim.Native.Nat.{ℕ, zero, suc, ◌*◌, ◌<◌, ◌≤◌}
use native.Mathlib.Decide.{dec_lt, ℕ_discrete}
use native.Mathlib.Omega.{arith}
use borrow.Author.Tests.{lt-ltb, le-ltb}
use lib.Dec.{ltb}
use lib.ListN.{length, get_or}
use Rattle.records.specs.Records.{Entry, name_at, entry_at, same_name, comes_before}
use Rattle.records.proofs.Equal.{symmetric}
use Rattle.records.proofs.Order.{through, behind, unequal}
use Rattle.variables.specs.Tables.{most, absent, present, records_of, sought_in}
use Rattle.variables.proofs.Chain.{starts}
use Rattle.variables.proofs.Good.{Laid, wholes}
use Rattle.variables.proofs.Unique.{own, apart, same_sought, unmet}
use Rattle.indexes.specs.Indexes.{place_bytes, in_order, index_of}
use Rattle.indexes.specs.inner.Halving.{place_in, name_in, nearest, count_in, met_at, searched}
use Rattle.indexes.proofs.Entries.{place_in_lem, Rising, Near, halved}
use Rattle.indexes.proofs.Sorting.{Strict, nothing, first, strict_order, among_these, kept, all_long}

-- the records of a list by their numbers
pub at_mem : (es : List Entry) (k : ℕ) (d : Entry) → k < length es → Memᴰ (get_or es k d) es
at_mem [] k d h = absurd (omega arith)
at_mem (e ∷ es) zero d h = head refl
at_mem (e ∷ es) (suc k) d h = tail (at_mem es k d (omega arith))

pub mem_at : {e : Entry} {es : List Entry} (d : Entry) → Memᴰ e es → (k : ℕ) × (k < length es) × (get_or es k d ≡ e)
mem_at d (head q) = (0, omega arith, sym q)
mem_at d (tail m) = let r = mem_at d m in (suc r.0, omega (arith, r.1), r.2)

strict_at : {es : List Entry} (d : Entry) → Strict es → (i j : ℕ) → i < j → j < length es → comes_before (get_or es i d).name (get_or es j d).name ≡ true
strict_at d nothing i j h k = absurd (omega arith)
strict_at d (first {es = es} all s) zero (suc j) h k = all _ (at_mem es j d (omega arith))
strict_at d (first all s) (suc i) (suc j) h k = strict_at d s i j (omega arith) (omega arith)
strict_at d (first all s) i zero h k = absurd (omega arith)

pub bytes_long : (es : List Entry) → length (place_bytes es) ≡ 2 * length es
bytes_long [] = refl
bytes_long (e ∷ es) = omega (arith, bytes_long es)

-- records of a table, whose places start an index
pub record Listed (table : List ℕ) (es : List Entry) : Type 0 where
  pub own_place : (e : Entry) → Memᴰ e es → e ≡ entry_at table e.place
  pub low : (e : Entry) → Memᴰ e es → e.place ≤ 65535

module _ (table : List ℕ) (es : List Entry) (rest : List ℕ) (d : Entry) (l : Listed table es) where
  abbrev index : List ℕ
  index = place_bytes es ++ rest

  pub name_in_lem : (k : ℕ) → k < length es → name_in table index k ≡ (get_or es k d).name
  unfolding entry_at
  name_in_lem k h =
      ap (name_at table) (place_in_lem es rest k d l.low h) ∙ sym (ap (λ (e : Entry). e.name) (l.own_place _ (at_mem es k d h)))

  pub rising : Strict es → Rising table index (length es)
  rising s i j h k = rw (name_in_lem i (omega arith), name_in_lem j k) (strict_at d s i j h k)

other_way : (a b : List ℕ) → same_name a b ≡ false → same_name b a ≡ false
other_way a b n = go (same_name b a) refl where
  go : (t : Bool) → same_name b a ≡ t → t ≡ false
  go false q = refl
  go true q = absurd (false≢true (sym n ∙ symmetric b a q))

-- a good table's records in their order
module _ {n : ℕ} {table : List ℕ} (l : Laid table n) where
  pub in_order_listed : Listed table (in_order table)
  in_order_listed =
      record {
        own_place = λ e m. starts l.chain (among_these (records_of table) m);
        low = λ e m. let w = wholes l (among_these (records_of table) m) in omega (arith, w.inside, l.short);
      }

  module _ (name : List ℕ) where
    abbrev es : List Entry
    es = in_order table

    abbrev places : List ℕ
    places = place_bytes es ++ []

    long : length es ≡ n
    long = omega (arith, all_long (records_of table) [], l.counted)

    d : Entry
    d = entry_at table 0

    named : (k : ℕ) → k < n → name_in table places k ≡ (get_or es k d).name
    named k h = name_in_lem table es [] d in_order_listed k (omega (arith, long))

    rise : Rising table places n
    rise = subst (Rising table places) long (rising table es [] d in_order_listed (strict_order (apart l)))

    -- where the nearest entry has not the name, no record has it
    nowhere_else :
        {near : ℕ} → Near table places name n near → same_name (name_in table places near) name ≡ false →
        (k : ℕ) → k < n → same_name (name_in table places k) name ≡ false
    nowhere_else {near} r other k h = go (ℕ_discrete k near) (dec_lt near k) where
      go : Dec (k ≡ near) → Dec (near < k) → same_name (name_in table places k) name ≡ false
      go (yes e) b = subst (λ k. same_name (name_in table places k) name ≡ false) (sym e) other
      go (no e) (yes b) = other_way name (name_in table places k) (unequal name (name_in table places k) (r.behind k b h))
      go (no e) (no b) =
          let after = behind name (name_in table places near) (r.not_later (λ z. omega arith)) (other_way (name_in table places near) name other) in
          unequal _ name (through (name_in table places k) (name_in table places near) name (rise k near (omega arith) r.inside) after)

    -- the nearest entry's record is what the name means, or nothing is
    met : {near : ℕ} → Near table places name n near → met_at table (place_in places near) name ≡ sought_in table name
    met {near} r = go (same_name (name_in table places near) name) refl
      where
        inside : near < length es
        inside = omega (arith, long, r.inside)

        e : Entry
        e = get_or es near d

        is_record : Memᴰ e (records_of table)
        is_record = among_these (records_of table) (at_mem es near d inside)

        here : entry_at table (place_in places near) ≡ e
        here = ap (entry_at table) (place_in_lem es [] near d in_order_listed.low inside) ∙ sym (in_order_listed.own_place e (at_mem es near d inside))

        go : (t : Bool) → same_name (name_in table places near) name ≡ t → met_at table (place_in places near) name ≡ sought_in table name
        go true q =
            rw q (ap present here ∙ sym (own l is_record)
            ∙ same_sought (records_of table) e.name name (subst (λ a. same_name a name ≡ true) (named near r.inside) q))
        go false q = rw q (sym (unmet (records_of table) name none)) where
          none : (f : Entry) → Memᴰ f (records_of table) → same_name f.name name ≡ false
          none f m =
              let at = mem_at d (kept (records_of table) [] (inl m)) in
              let k : ℕ = at.0 in
              let within : k < n = omega (arith, long, at.1) in
              subst (λ a. same_name a name ≡ false) (named k within ∙ ap (λ (e : Entry). e.name) at.2) (nowhere_else r q k within)

    counted : count_in places ≡ n
    counted =
        let bytes : length places ≡ 2 * n = ap length (append-nil (place_bytes es)) ∙ bytes_long es ∙ ap (λ m. 2 * m) long in
        rw (le-ltb (2 * most) (length places) (omega (arith, bytes, l.few)), bytes) (omega arith)

    by_halving : searched table places name ≡ sought_in table name
    unfolding searched
    by_halving = rw counted (go (dec_lt 0 n))
      where
        go : Dec (0 < n) → cond (ltb 0 n) (met_at table (place_in places (nearest 8 table places name 0 n)) name) absent ≡ sought_in table name
        go (yes h) = rw (lt-ltb 0 n h) (met (halved table places name n rise h l.few))
        go (no h) = rw (le-ltb 0 n (omega arith)) (sym (unmet (records_of table) name none)) where
          none : (f : Entry) → Memᴰ f (records_of table) → same_name f.name name ≡ false
          none f m = absurd (omega (arith, (mem_at d m).1, l.counted))

    pub search_same : searched table (index_of table) name ≡ sought_in table name
    search_same = ap (λ index. searched table index name) (sym (append-nil (place_bytes es))) ∙ by_halving
