-- A good table: its records lie one behind the other from 0 to the slice's end, so many as its answer says, and each is whole.
use mathlib.Core.Bool.{Bool, true, false, and-eq-true_iff}
use mathlib.Core.List.Memᴰ
use mathlib.Core.List.Memᴰ.{head}
use mathlib.Core.List.Memᴰ.{tail}
use mathlib.Core.List.{List, [], ◌∷◌, Memᴰ}
use mathlib.Core.Path.{◌≡◌, refl, ap, sym, subst, ◌∙◌}
use Prim.Native.Nat.{ℕ, zero, suc, ◌+◌, ◌≤◌}
use native.Mathlib.Omega.{arith}
use borrow.Author.Tests.{leb-true, ltb-false}
use lib.Dec.{leb, ltb}
use lib.ListN.{length}
use Rattle.paper.specs.Refusals.{longest}
use Rattle.records.specs.Records.{next_place, shaped, Entry, entry_at}
use Rattle.records.proofs.Whole.{Whole, shaped_whole}
use Rattle.variables.specs.Tables.{most, is_new, sound, bad_table_at, scanned, checked, records_of}
use Rattle.std.specs.Prelude.{Result, Ok}
use Rattle.paper.specs.declared.refusals.BadTable.{BadTable}
use Rattle.paper.specs.declared.refusals.Refusal.{Refusal}
use Rattle.variables.proofs.Chain.{Chain, end, next, exact, starts, place_of}

module _ (table : List ℕ) (place : ℕ) where
  sound_whole : sound table place ≡ true → Whole table (entry_at table place)
  unfolding sound
  sound_whole e = shaped_whole table place ((and-eq-true_iff (shaped table place) (is_new table place)).0 e).0

  pub next_inside : sound table place ≡ true → next_place table place ≤ length table
  unfolding entry_at
  next_inside e = let w = sound_whole e in omega (arith, w.inside, w.name_length_is, w.value_length_is)

-- what a scan that ends well has passed from a place on
record Passed (table : List ℕ) (left count n place : ℕ) : Type 0 where
  rows : List Entry
  chain : Chain table (length table) place rows
  counted : count + length rows ≡ n
  few : length rows ≤ left
  sounds : (e : Entry) → Memᴰ e rows → sound table e.place ≡ true

not_refused : {why : Refusal} {place n : ℕ} → bad_table_at why place ≡ Ok n → ⊥
not_refused e = let z : ◌≡◌ {A = ℕ} 0 1 = cc in omega arith

module _ (table : List ℕ) (n : ℕ) where
  over : (left count place : ℕ) → place ≤ length table → length table ≤ place → ◌≡◌ {A = Result ℕ BadTable} (Ok count) (Ok n) → Passed table left count n place
  over left count place h l e =
      let c : count ≡ n = cc in
      let at_end : place ≡ length table = omega arith in
      record {
        rows = [];
        chain = end at_end;
        counted = omega arith;
        few = omega arith;
        sounds = λ e m. absurd (Memᴰ.not-nil m);
      }

  one_more :
      (left count place : ℕ) → sound table place ≡ true → Passed table left (suc count) n (next_place table place) →
      Passed table (suc left) count n place
  one_more left count place s p =
      record {
        rows = entry_at table place ∷ p.rows;
        chain = next p.chain;
        counted = omega (arith, p.counted);
        few = omega (arith, p.few);
        sounds = each;
      } where
        each : (e : Entry) → Memᴰ e (entry_at table place ∷ p.rows) → sound table e.place ≡ true
        each e (head q) = rw (ap (λ x. x.place) q ∙ place_of table place) s
        each e (tail m) = p.sounds e m

  passed : (left count place : ℕ) → place ≤ length table → scanned left count table place ≡ Ok n → Passed table left count n place
  unfolding scanned
  passed zero count place h e = go (leb (length table) place) refl where
    go : (b : Bool) → leb (length table) place ≡ b → Passed table zero count n place
    go true q = over zero count place h (leb-true _ _ q) (rw q at e)
    go false q = absurd (not_refused (rw q at e))
  passed (suc left) count place h e = go (leb (length table) place) (sound table place) refl refl (passed left (suc count) (next_place table place)) where
    go :
        (b s : Bool) → leb (length table) place ≡ b → sound table place ≡ s →
        (let p = next_place table place in p ≤ length table → scanned left (suc count) table p ≡ Ok n → Passed table left (suc count) n p) →
        Passed table (suc left) count n place
    go true s q r further = over (suc left) count place h (leb-true _ _ q) (rw q at e)
    go false true q r further = one_more left count place r (further (next_inside table place r) (rw (q, r) at e))
    go false false q r further = absurd (not_refused (rw (q, r) at e))

-- what it is for a table to be good
pub record Laid (table : List ℕ) (n : ℕ) : Type 0 where
  pub short : length table ≤ longest
  pub chain : Chain table (length table) 0 (records_of table)
  pub counted : length (records_of table) ≡ n
  pub few : n ≤ most
  pub sounds : (e : Entry) → Memᴰ e (records_of table) → sound table e.place ≡ true

pub laid : {n : ℕ} (table : List ℕ) → checked table ≡ Ok n → Laid table n
unfolding checked
laid {n} table e = go (ltb longest (length table)) refl where
  go : (b : Bool) → ltb longest (length table) ≡ b → Laid table n
  go true q = absurd (not_refused (rw q at e))
  go false q =
      let p = passed table n most 0 0 (omega arith) (rw q at e) in
      let met : p.rows ≡ records_of table = sym (exact most p.chain p.few) in
      record {
        short = ltb-false _ _ q;
        chain = subst (Chain table (length table) 0) met p.chain;
        counted = omega (arith, ap length met, p.counted);
        few = omega (arith, p.counted, p.few);
        sounds = λ e m. p.sounds e (subst (Memᴰ e) (sym met) m);
      }

-- the parts of each record
pub wholes : {n : ℕ} {table : List ℕ} {e : Entry} → Laid table n → Memᴰ e (records_of table) → Whole table e
wholes {table = table} {e = e} l m = subst (Whole table) (sym (starts l.chain m)) (sound_whole table e.place (l.sounds e m))
