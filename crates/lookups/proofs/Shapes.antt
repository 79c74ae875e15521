-- A table all of whose records have a record's shape: they lie one behind the other up to the slice's end. It is good where their names are
-- unequal.
use mathlib.Core.Bool.{Bool, true, false, and-eq-true_iff, false≢true}
use mathlib.Core.List.Memᴰ
use mathlib.Core.List.Memᴰ.{head}
use mathlib.Core.List.Memᴰ.{tail}
use mathlib.Core.List.{List, [], ◌∷◌, ◌++◌, Memᴰ}
use mathlib.Core.Path.{◌≡◌, refl, ap, sym, subst, ◌∙◌}
use Prim.Native.Nat.{ℕ, zero, suc, ◌+◌, ◌<◌, ◌≤◌}
use native.Mathlib.Omega.{arith}
use borrow.Author.Tests.{leb-true, le-leb, lt-leb}
use lib.Dec.{leb}
use lib.ListN.{length, length-append}
use Rattle.std.proofs.Common.{Option, Some, None}
use Rattle.std.specs.Option.{unwrap_or, is_some}
use Rattle.paper.specs.Refusals.{longest}
use Rattle.records.specs.Records.{next_place, shaped, name_at, same_name, Entry, entry_at}
use Rattle.records.proofs.Whole.{shaped_whole}
use Rattle.variables.specs.Tables.{most, is_new, sound, scanned, records_of, checked}
use Rattle.std.specs.Prelude.{Ok}
use Rattle.variables.proofs.Chain.{Chain, end, next, within, exact, starts, split, place_of}
use Rattle.variables.proofs.Good.{Laid}
use Rattle.variables.proofs.Judging.{checked_short}
use Rattle.variables.proofs.Unique.{unmet}
use Rattle.lookups.specs.inner.Fitting.{shaped_from, shaped_in}

pub some_same : {m n : ℕ} → Some m ≡ Some n → m ≡ n
some_same e = ap (λ o. unwrap_or o 0) e

pub none_some : {n : ℕ} → ◌≡◌ {A = Option ℕ} None (Some n) → ⊥
none_some e = false≢true (ap is_some e)

-- a record of a chain starts before the chain's end
pub earlier : {table : List ℕ} {stop place : ℕ} {es : List Entry} {e : Entry} → Chain table stop place es → Memᴰ e es → e.place < stop
earlier (end _) m = elim m [ ]
earlier {table} {place = place} (next r) (head q) = omega (arith, ap (λ x. x.place) q, place_of table place, within r)
earlier (next r) (tail m) = earlier r m

-- what it is for a table's records to have their shapes
pub record Shaped (table : List ℕ) (n : ℕ) : Type 0 where
  pub chain : Chain table (length table) 0 (records_of table)
  pub counted : length (records_of table) ≡ n
  pub few : n ≤ most
  pub shapes : (e : Entry) → Memᴰ e (records_of table) → shaped table e.place ≡ true

-- those from a place on
record From (table : List ℕ) (left count n place : ℕ) : Type 0 where
  rows : List Entry
  chain : Chain table (length table) place rows
  counted : count + length rows ≡ n
  few : length rows ≤ left
  shapes : (e : Entry) → Memᴰ e rows → shaped table e.place ≡ true

-- no walk meets more than 256
few_from : (table : List ℕ) {n : ℕ} (left count place : ℕ) → shaped_from left count table place ≡ Some n → n ≤ count + left
unfolding shaped_from
few_from table {n} zero count place e = go (leb (length table) place) refl where
  go : (b : Bool) → leb (length table) place ≡ b → n ≤ count + 0
  go true q = omega (arith, some_same (rw q at e))
  go false q = absurd (none_some (rw q at e))
few_from table {n} (suc left) count place e = go (leb (length table) place) (shaped table place) refl refl (few_from table left (suc count) (next_place table place)) where
  go :
      (b s : Bool) → leb (length table) place ≡ b → shaped table place ≡ s →
      (shaped_from left (suc count) table (next_place table place) ≡ Some n → n ≤ suc count + left) → n ≤ count + suc left
  go true s q r further = omega (arith, some_same (rw q at e))
  go false true q r further = omega (arith, further (rw (q, r) at e))
  go false false q r further = absurd (none_some (rw (q, r) at e))

pub few_so : (table : List ℕ) {n : ℕ} → shaped_in table ≡ Some n → n ≤ most
few_so table e = omega (arith, few_from table most 0 0 e)

module _ (table : List ℕ) (n : ℕ) (enough : n ≤ most) where
  over : (left count place : ℕ) → place ≤ length table → length table ≤ place → count ≡ n → From table left count n place
  over left count place h l e =
      let at_end : place ≡ length table = omega arith in
      record { rows = []; chain = end at_end; counted = omega arith; few = omega arith; shapes = λ e m. absurd (Memᴰ.not-nil m) }

  one_more : (left count place : ℕ) → shaped table place ≡ true → From table left (suc count) n (next_place table place) → From table (suc left) count n place
  one_more left count place s p =
      record {
        rows = entry_at table place ∷ p.rows;
        chain = next p.chain;
        counted = omega (arith, p.counted);
        few = omega (arith, p.few);
        shapes = each;
      } where
        each : (e : Entry) → Memᴰ e (entry_at table place ∷ p.rows) → shaped table e.place ≡ true
        each e (head q) = rw (ap (λ x. x.place) q ∙ place_of table place) s
        each e (tail m) = p.shapes e m

  next_inside : (place : ℕ) → shaped table place ≡ true → next_place table place ≤ length table
  unfolding entry_at
  next_inside place e = let w = shaped_whole table place e in omega (arith, w.inside, w.name_length_is, w.value_length_is)

  passed : (left count place : ℕ) → place ≤ length table → shaped_from left count table place ≡ Some n → From table left count n place
  unfolding shaped_from
  passed zero count place h e = go (leb (length table) place) refl where
    go : (b : Bool) → leb (length table) place ≡ b → From table zero count n place
    go true q = over zero count place h (leb-true _ _ q) (some_same (rw q at e))
    go false q = absurd (none_some (rw q at e))
  passed (suc left) count place h e = go (leb (length table) place) (shaped table place) refl refl (passed left (suc count) (next_place table place)) where
    go :
        (b s : Bool) → leb (length table) place ≡ b → shaped table place ≡ s →
        (let p = next_place table place in p ≤ length table → shaped_from left (suc count) table p ≡ Some n → From table left (suc count) n p) →
        From table (suc left) count n place
    go true s q r further = over (suc left) count place h (leb-true _ _ q) (some_same (rw q at e))
    go false true q r further = one_more left count place r (further (next_inside place r) (rw (q, r) at e))
    go false false q r further = absurd (none_some (rw (q, r) at e))

  -- a walk over the shapes that ends well has met the table's records
  pub shaped_so : shaped_in table ≡ Some n → Shaped table n
  shaped_so e =
      let p = passed most 0 0 (omega arith) e in
      let met : p.rows ≡ records_of table = sym (exact most p.chain p.few) in
      record {
        chain = subst (Chain table (length table) 0) met p.chain;
        counted = omega (arith, ap length met, p.counted);
        few = enough;
        shapes = λ e m. p.shapes e (subst (Memᴰ e) (sym met) m);
      }

-- and where they lie so, both walks end well
shapes_met :
    {table : List ℕ} {place : ℕ} {es : List Entry} (left count : ℕ) → Chain table (length table) place es →
    ((e : Entry) → Memᴰ e es → shaped table e.place ≡ true) → length es ≤ left → shaped_from left count table place ≡ Some (count + length es)
unfolding shaped_from
shapes_met {table} {place} zero count (end e) s h = rw (le-leb (length table) place (omega arith)) (ap Some (omega arith))
shapes_met {table} {place} (suc left) count (end e) s h = rw (le-leb (length table) place (omega arith)) (ap Some (omega arith))
shapes_met zero count (next r) s h = absurd (omega arith)
shapes_met {table} {place} (suc left) count (next {es = es} r) s h =
    let here : shaped table place ≡ true = rw place_of at (s (entry_at table place) (head refl)) in
    rw (lt-leb (length table) place (omega (arith, within r)), here)
    (shapes_met {place = next_place table place} left (suc count) r (λ e m. s e (tail m)) (omega arith) ∙ ap Some (omega arith))

sounds_met :
    {table : List ℕ} {place : ℕ} {es : List Entry} (left count : ℕ) → Chain table (length table) place es →
    ((e : Entry) → Memᴰ e es → sound table e.place ≡ true) → length es ≤ left → scanned left count table place ≡ Ok (count + length es)
unfolding scanned
sounds_met {table} {place} zero count (end e) s h = rw (le-leb (length table) place (omega arith)) (ap Ok (omega arith))
sounds_met {table} {place} (suc left) count (end e) s h = rw (le-leb (length table) place (omega arith)) (ap Ok (omega arith))
sounds_met zero count (next r) s h = absurd (omega arith)
sounds_met {table} {place} (suc left) count (next {es = es} r) s h =
    let here : sound table place ≡ true = rw place_of at (s (entry_at table place) (head refl)) in
    rw (lt-leb (length table) place (omega (arith, within r)), here)
    (sounds_met {place = next_place table place} left (suc count) r (λ e m. s e (tail m)) (omega arith) ∙ ap Ok (omega arith))

module _ {table : List ℕ} {n : ℕ} where
  -- the records of a good table have their shapes
  pub good_shaped : Laid table n → Shaped table n
  unfolding sound
  good_shaped l =
      record {
        chain = l.chain;
        counted = l.counted;
        few = l.few;
        shapes = λ e m. ((and-eq-true_iff (shaped table e.place) (is_new table e.place)).0 (l.sounds e m)).0;
      }

  module _ (s : Shaped table n) where
    pub count_of : shaped_in table ≡ Some n
    count_of = shapes_met most 0 s.chain s.shapes (omega (arith, s.counted, s.few)) ∙ ap Some (omega (arith, s.counted))

    module _ (unlike : (e f : Entry) → Memᴰ e (records_of table) → Memᴰ f (records_of table) → (e ≡ f → ⊥) → same_name e.name f.name ≡ false) where
      -- where the names are unequal each is new
      new : (e : Entry) → Memᴰ e (records_of table) → is_new table e.place ≡ true
      unfolding entry_at
      new e m =
          let p = split s.chain m in
          let sum = length-append p.front (e ∷ p.back) in
          let few : length p.front ≤ most = omega (arith, s.counted, s.few, ap length p.whole, sum) in
          let named : name_at table e.place ≡ e.name = sym (ap (λ x. x.name) (starts s.chain m)) in
          rw (exact most p.up_to few, named, unmet p.front e.name (differs p.front p.back p.whole p.up_to)) refl where
            differs :
                (front back : List Entry) → records_of table ≡ front ++ (e ∷ back) → Chain table e.place 0 front →
                (f : Entry) → Memᴰ f front → same_name f.name e.name ≡ false
            differs front back whole up_to f k =
                unlike f e (subst (Memᴰ f) (sym whole) (Memᴰ.append_left (e ∷ back) k)) m
                (λ q. omega (arith, ap (λ x. x.place) q, earlier up_to k))

      sounds : (e : Entry) → Memᴰ e (records_of table) → sound table e.place ≡ true
      unfolding sound
      sounds e m = (and-eq-true_iff (shaped table e.place) (is_new table e.place)).1 (s.shapes e m, new e m)

      -- and the table is good
      pub good : length table ≤ longest → checked table ≡ Ok n
      good short =
          checked_short table short
          ∙ sounds_met most 0 s.chain sounds (omega (arith, s.counted, s.few)) ∙ ap Ok (omega (arith, s.counted))
