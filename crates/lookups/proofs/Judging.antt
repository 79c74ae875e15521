-- What is found of two tables and an index, with the lines that are laid, and that look-ups by these and by the index are those in the
-- tables.
use mathlib.Core.Bool.{Bool, true, false, and-eq-true_iff, false≢true}
use mathlib.Core.List.{List, [], ◌++◌}
use mathlib.Core.Path.{◌≡◌, refl, ap, ap₂, sym, subst, ◌∙◌}
use Prim.Native.Nat.{ℕ}
use native.Mathlib.Omega.{arith}
use lib.ListN.{length}
use Rattle.paper.specs.declared.Holder.TheVariants.{Farm, House}
use Rattle.std.specs.Prelude.{Result, Ok, Err, is_ok}
use Rattle.paper.specs.declared.refusals.BadTable.{BadTable}
use Rattle.paper.specs.declared.refusals.BadTableOf.{BadTableOf}
use Rattle.paper.specs.declared.refusals.Refusal.{Refusal}
use Rattle.paper.proofs.Choice.{clash}
use Rattle.records.specs.Records.{same_bytes}
use Rattle.records.proofs.Equal.{bytes_same}
use Rattle.variables.specs.Tables.{most, records_of, bad_table_at, scanned, checked, sought_in}
use Rattle.variables.specs.Holdings.{held_in, or_else}
use Rattle.variables.specs.Judgements.{judged}
use Rattle.variables.specs.inner.Keys.{lines_of as rows_of, laid_over, judged_lines, keys_of, sought_by}
use Rattle.variables.proofs.Chain.{none_left}
use Rattle.variables.proofs.Good.{laid}
use Rattle.variables.proofs.Judging.{Case, long_farm, long_house, bad_farm, bad_house, both_good, judged_case, judged_so, both_are}
use Rattle.variables.proofs.KeysFind.{sought_by_keys}
use Rattle.variables.proofs.Lines.{by_records, or_nowhere}
use Rattle.indexes.specs.Indexes.{Given, no_index, given_index, index_of, fits}
use Rattle.indexes.specs.inner.Halving.{searched}
use Rattle.indexes.proofs.Searching.{search_same}
use Rattle.lookups.specs.inner.Through.{serves, to_lay, bytes_given, lines_of, judged_by, Leads}
use Rattle.lookups.specs.declared.NotGood.{NotGood}
use Rattle.lookups.specs.declared.NotGood.TheVariants.{Table, Index}

is_good_lem : (r : Result ℕ BadTable) → is_ok r ≡ true → (n : ℕ) × (r ≡ Ok n)
is_good_lem (Ok n) e = (n, refl)
is_good_lem (Err bad) e = absurd (false≢true e)

none_good : checked [] ≡ Ok 0
unfolding checked scanned
none_good = refl

other_way : {why : Refusal} {n place : ℕ} → bad_table_at why place ≡ Ok n → ⊥
other_way e = clash (cc)

-- where an index serves, the table is good and the bytes are those of its index
module _ (house index : List ℕ) (e : serves house index ≡ true) where
  both_hold : (is_ok (checked house) ≡ true) × (same_bytes index (index_of house) ≡ true)
  both_hold = (and-eq-true_iff (is_ok (checked house)) (same_bytes index (index_of house))).0 e

  served_good : (n : ℕ) × (checked house ≡ Ok n)
  served_good = is_good_lem (checked house) both_hold.0

  served_bytes : index ≡ index_of house
  served_bytes = bytes_same index (index_of house) both_hold.1

-- a good house's table leaves the judgement to the farm's
module _ (farm house : List ℕ) {n : ℕ} (good : checked house ≡ Ok n) where
  -- what that comes to with an index that serves
  pub alone_judged : (lines : ℕ) → judged_by (judged farm []) true lines ≡ judged_by (judged farm house) true lines
  alone_judged lines = go (judged_case farm house) refl where
    go : {r : Result ℕ BadTableOf} → Case farm house r → judged farm house ≡ r → judged_by (judged farm []) true lines ≡ judged_by (judged farm house) true lines
    go (long_farm l) e = rw (e, judged_so farm [] (long_farm l))
    go (long_house f l) e = absurd (omega (arith, l, (laid house good).short))
    go (bad_farm f h place b) e = rw (e, judged_so farm [] (bad_farm f (omega arith) place b))
    go (bad_house f h own g place b) e = absurd (other_way (sym b ∙ good))
    go (both_good f h own g count b) e = rw (e, judged_so farm [] (both_good f (omega arith) own g 0 none_good))

  -- and the lines of the farm's alone are laid
  alone_good : {count : ℕ} → judged farm house ≡ Ok count → judged farm [] ≡ Ok (lines_of (judged farm []))
  alone_good e =
      let g = both_are farm house e in
      let q = judged_so farm [] (both_good g.farm_short (omega arith) g.own g.farm_good 0 none_good) in
      q ∙ sym (ap (λ r. Ok (lines_of r)) q)

module _ (farm house : List ℕ) {keys : List ℕ} where
  -- without an index all lines lead there
  leads_by_keys : keys ≡ keys_of farm house → Leads farm house keys []
  unfolding searched
  leads_by_keys e name = or_nowhere (sought_by farm house keys name) ∙ sought_by_keys farm house name e

  -- with one, the farm's lines, and then its entries
  leads_by_index : {n : ℕ} → checked house ≡ Ok n → keys ≡ keys_of farm [] → Leads farm house keys (index_of house)
  unfolding sought_by
  leads_by_index good e name =
      let farms : sought_by farm house keys name ≡ held_in Farm (sought_in farm name) =
      ap (λ ks. sought_by farm house ks name) (e ∙ ap (λ es. rows_of Farm (records_of farm) ++ rows_of House es) (none_left [] 0 0 most (omega arith)))
      ∙ by_records farm house Farm name [] (length farm) ∙ or_nowhere (held_in Farm (sought_in farm name)) in
      ap₂ (λ f h. or_else f (held_in House h)) farms (search_same (laid house good) name)

-- what is known where nothing is refused
pub record Ready (farm house : List ℕ) (given : Given) (lines : ℕ) : Type 0 where
  pub count : ℕ
  pub good : judged farm house ≡ Ok count
  pub fit : fits given house ≡ true
  pub lined : judged farm (to_lay house given) ≡ Ok lines
  pub leads : {keys : List ℕ} → keys ≡ keys_of farm (to_lay house given) → Leads farm house keys (bytes_given given)

module _ (farm house : List ℕ) where
  abbrev answer : Given → Result ℕ NotGood
  answer given = judged_by (judged farm house) (fits given house) (lines_of (judged farm (to_lay house given)))

  decided : (given : Given) (lines : ℕ) → answer given ≡ Ok lines → (count : ℕ) × (judged farm house ≡ Ok count) × (fits given house ≡ true) × (lines_of (judged farm (to_lay house given)) ≡ lines)
  decided given lines e = go (judged farm house) (fits given house) refl refl e
    where
      go : (r : Result ℕ BadTableOf) (fit : Bool) → judged farm house ≡ r → fits given house ≡ fit → judged_by r fit (lines_of (judged farm (to_lay house given))) ≡ Ok lines
          → (count : ℕ) × (judged farm house ≡ Ok count) × (fits given house ≡ true) × (lines_of (judged farm (to_lay house given)) ≡ lines)
      go (Ok count) true p q e = let same : lines_of (judged farm (to_lay house given)) ≡ lines = cc in (count, p, q, same)
      go (Ok count) false p q e = clash (cc)
      go (Err bad) fit p q e = clash (cc)

  pub ready : (given : Given) {lines : ℕ} → answer given ≡ Ok lines → Ready farm house given lines
  ready no_index {lines} e =
      let d = decided no_index lines e in
      record {
        count = d.0;
        good = d.1;
        fit = refl;
        lined = d.1 ∙ ap Ok (sym (ap lines_of d.1) ∙ d.3);
        leads = leads_by_keys farm house;
      }
  ready (given_index index) {lines} e =
      let d = decided (given_index index) lines e in
      let g = both_are farm house d.1 in
      let s : serves house index ≡ true = rw g.house_good d.2 in
      let lay : to_lay house (given_index index) ≡ [] = rw s in
      record {
        count = d.0;
        good = d.1;
        fit = d.2;
        lined = rw lay (alone_good farm house g.house_good d.1) ∙ ap Ok d.3;
        leads = λ {keys} k. subst (Leads farm house keys) (sym (served_bytes house index s)) (leads_by_index farm house g.house_good (k ∙ ap (keys_of farm) lay));
      }

  -- and where something is
  pub refused_table :
      (given : Given) {bad : BadTableOf} → answer given ≡ Err (Table bad) → judged farm house ≡ Err bad
  refused_table given {bad} e = go (judged farm house) (fits given house) _ refl e
    where
      go : (r : Result ℕ BadTableOf) (fit : Bool) (lines : ℕ) → judged farm house ≡ r → judged_by r fit lines ≡ Err (Table bad) →
          judged farm house ≡ Err bad
      go (Err b) fit lines p e =
          let same : b ≡ bad = cc in
          p ∙ ap Err same
      go (Ok count) true lines p e = clash (cc)
      go (Ok count) false lines p e = clash (cc)

  pub refused_index : (given : Given) → answer given ≡ Err Index → (count : ℕ) × (judged farm house ≡ Ok count) × (fits given house ≡ false)
  refused_index given e = go (judged farm house) (fits given house) _ refl refl e
    where
      go : (r : Result ℕ BadTableOf) (fit : Bool) (lines : ℕ) → judged farm house ≡ r → fits given house ≡ fit → judged_by r fit lines ≡ Err Index →
          (count : ℕ) × (judged farm house ≡ Ok count) × (fits given house ≡ false)
      go (Err b) fit lines p q e = clash (cc)
      go (Ok count) true lines p q e = clash (cc)
      go (Ok count) false lines p q e = (count, p, q)

  -- how the code comes there: an index that serves, and one that does not
  module _ (index : List ℕ) where
    lay_none : serves house index ≡ true → to_lay house (given_index index) ≡ []
    lay_none s = rw s

    pub served_answer : serves house index ≡ true → judged_by (judged farm []) true (lines_of (judged farm [])) ≡ answer (given_index index)
    served_answer s = rw (s, (both_hold house index s).1) (alone_judged farm house (served_good house index s).1 (lines_of (judged farm [])))

    pub served_lines : (keys : List ℕ) → serves house index ≡ true → laid_over (judged_lines farm []) keys ≡ laid_over (judged_lines farm (to_lay house (given_index index))) keys
    served_lines keys s = rw (lay_none s)

    pub unserved_answer : serves house index ≡ false → judged_by (judged farm house) false (lines_of (judged farm house)) ≡ answer (given_index index)
    unserved_answer s = go (judged farm house) refl
      where
        misfit : {count : ℕ} → judged farm house ≡ Ok count → same_bytes index (index_of house) ≡ false
        misfit e = rw (both_are farm house e).house_good at s

        go : (r : Result ℕ BadTableOf) → judged farm house ≡ r → judged_by (judged farm house) false (lines_of (judged farm house)) ≡ answer (given_index index)
        go (Ok count) e = rw (e, misfit e)
        go (Err bad) e = rw e

    pub unserved_lines : (keys : List ℕ) → serves house index ≡ false → laid_over (judged_lines farm house) keys ≡ laid_over (judged_lines farm (to_lay house (given_index index))) keys
    unserved_lines keys s = rw s
