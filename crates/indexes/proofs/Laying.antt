-- A good table's records laid one after the other: those that are laid, those that are left, and the bytes so far.
use mathlib.Core.List.Memᴰ
use mathlib.Core.List.{List, [], ◌∷◌, ◌++◌, append-nil, append_assoc, Memᴰ}
use mathlib.Core.Path.{◌≡◌, refl, ap, ap₂, sym, subst, ◌∙◌}
use Prim.Native.Nat.{ℕ, ◌+◌, ◌*◌, ◌<◌, ◌≤◌}
use native.Mathlib.Omega.{arith}
use lib.ListN.{length, drop, length-append}
use lib.Seq.{drop-drop}
use Rattle.records.specs.Records.{Entry, name_at, next_place, entry_at}
use Rattle.variables.specs.Tables.{records_of}
use Rattle.variables.proofs.Chain.{Chain, end, next, within, starts}
use Rattle.variables.proofs.Good.{Laid, wholes}
use Rattle.variables.proofs.Unique.{Apart, none, one, apart}
use Rattle.indexes.specs.Indexes.{inserted, inserted_all, place_bytes, index_of}
use Rattle.indexes.specs.inner.Halving.{slot_in, with_entry}
use Rattle.indexes.proofs.Inserting.{inserted_bytes}
use Rattle.indexes.proofs.Searching.{Listed, bytes_long}
use Rattle.indexes.proofs.Sorting.{strict_order, among_these, all_long}

-- the first records of some are pairwise unequal where all are
front_apart : (es fs : List Entry) → Apart (es ++ fs) → Apart es
front_apart [] fs a = none
front_apart (e ∷ es) fs (one d a) = one (λ f m. d f (Memᴰ.append_left fs m)) (front_apart es fs a)

-- how far it has come
pub record Laying (table out₀ out : List ℕ) (count place : ℕ) : Type 0 where
  pub front : List Entry
  pub back : List Entry
  pub whole : records_of table ≡ front ++ back
  pub chain : Chain table (length table) place back
  pub counted : count ≡ length front
  pub laid : out ≡ place_bytes (inserted_all front []) ++ drop (2 * count) out₀

-- nothing is laid at first
pub laying_first : {n : ℕ} (table out : List ℕ) → Laid table n → Laying table out out 0 0
unfolding inserted_all
laying_first table out l = record { front = []; back = records_of table; whole = refl; chain = l.chain; counted = refl; laid = refl }

inserted_last : (es fs : List Entry) (e : Entry) → inserted_all (es ++ (e ∷ [])) fs ≡ inserted e (inserted_all es fs)
unfolding inserted_all
inserted_last [] fs e = refl
inserted_last (f ∷ es) fs e = inserted_last es (inserted f fs) e

module _ {n : ℕ} (table out₀ : List ℕ) (l : Laid table n) {out : List ℕ} {count place : ℕ} (w : Laying table out₀ out count place) where
  few : count + length w.back ≡ n
  few = omega (arith, w.counted, sym (ap length w.whole ∙ length-append w.front w.back) ∙ l.counted)

  -- one record more
  abbrev with_it : List ℕ
  with_it = with_entry (slot_in table out count (name_at table place)) count place out

  pub laying_next : place < length table → Laying table out₀ with_it (count + 1) (next_place table place)
  laying_next h = go w.back w.chain refl
    where
      es : List Entry
      es = inserted_all w.front []

      es_long : length es ≡ count
      es_long = all_long w.front [] ∙ omega (arith, w.counted)

      a_record : {e : Entry} → Memᴰ e es → Memᴰ e (records_of table)
      a_record {e} m = subst (Memᴰ e) (sym w.whole) (Memᴰ.append_left w.back (among_these w.front m))

      listed : Listed table es
      listed =
          record {
            own_place = λ e m. starts l.chain (a_record m);
            low = λ e m. let p = wholes l (a_record m) in omega (arith, p.inside, l.short);
          }

      two_more : 2 * count + 2 ≡ 2 * (count + 1)
      two_more = omega arith

      bytes : with_it ≡ place_bytes (inserted_all (w.front ++ (entry_at table place ∷ [])) []) ++ drop (2 * (count + 1)) out₀
      bytes =
          ap (λ out. with_entry (slot_in table out count (name_at table place)) count place out) w.laid
          ∙ subst (λ c. with_entry (slot_in table (place_bytes es ++ drop (2 * count) out₀) c (name_at table place)) c place (place_bytes es ++ drop (2 * count) out₀)
          ≡ place_bytes (inserted (entry_at table place) es) ++ drop 2 (drop (2 * count) out₀)) es_long
          (inserted_bytes table place es (drop (2 * count) out₀) listed (strict_order (front_apart w.front w.back (subst Apart w.whole (apart l)))) (omega (arith, es_long, few, l.few)))
          ∙ ap (λ fs. place_bytes fs ++ drop 2 (drop (2 * count) out₀)) (sym (inserted_last w.front [] (entry_at table place)))
          ∙ ap (◌++◌ (place_bytes (inserted_all (w.front ++ (entry_at table place ∷ [])) []))) (drop-drop 2 (2 * count) out₀ ∙ ap (λ i. drop i out₀) two_more)

      go : (back : List Entry) → Chain table (length table) place back → w.back ≡ back → Laying table out₀ with_it (count + 1) (next_place table place)
      go [] (end e) q = absurd (omega arith)
      go (f ∷ back) (next r) q =
          record {
            front = w.front ++ (entry_at table place ∷ []);
            back = back;
            whole = w.whole ∙ ap (◌++◌ w.front) q ∙ sym (append_assoc w.front (entry_at table place ∷ []) back);
            chain = r;
            counted = omega (arith, w.counted, length-append w.front (entry_at table place ∷ []));
            laid = bytes;
          }

  -- so there is room for one more
  pub laying_room : place < length table → (count < n) × (next_place table place ≤ length table)
  laying_room h = go w.back w.chain refl where
    go : (back : List Entry) → Chain table (length table) place back → w.back ≡ back → (count < n) × (next_place table place ≤ length table)
    go [] (end e) q = absurd (omega arith)
    go (f ∷ back) (next r) q = (omega (arith, few, ap length q), within r)

  -- and at the table's end all are laid
  pub laying_last : length table ≤ place → out ≡ index_of table ++ drop (length (index_of table)) out₀
  laying_last h = go w.back w.chain refl where
    go : (back : List Entry) → Chain table (length table) place back → w.back ≡ back → out ≡ index_of table ++ drop (length (index_of table)) out₀
    go [] (end e) q =
        let all : w.front ≡ records_of table = sym (w.whole ∙ ap (◌++◌ w.front) q ∙ append-nil w.front) in
        let size : 2 * count ≡ length (index_of table) =
        omega (arith, w.counted, ap length all, bytes_long (inserted_all (records_of table) []), all_long (records_of table) []) in
        w.laid ∙ ap₂ (λ fs i. place_bytes (inserted_all fs []) ++ drop i out₀) all size
    go (f ∷ back) (next r) q = absurd (omega (arith, within r))
