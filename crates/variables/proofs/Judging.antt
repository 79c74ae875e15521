-- What is found before a text is read: that the text is too long, and otherwise what the tables' checks say, one behind the other.
use mathlib.Core.List.{List}
use mathlib.Core.Logic.{◌↔◌}
use mathlib.Core.Path.{◌≡◌, refl, ap, sym, ◌∙◌}
use Prim.Native.Nat.{ℕ, zero, suc, ◌+◌, ◌≤◌, ◌<◌}
use native.Mathlib.Omega.{arith}
use native.Mathlib.Decide.{dec_lt}
use borrow.Author.Tests.{lt-ltb, le-ltb}
use lib.Dec.{leb}
use lib.ListN.{length}
use Rattle.paper.specs.Refusals.{longest}
use Rattle.paper.specs.declared.refusals.BadTable.{BadTable}
use Rattle.paper.specs.declared.refusals.BadTableOf.{BadTableOf}
use Rattle.paper.specs.declared.refusals.Refusal.{Refusal}
use Rattle.paper.specs.declared.refusals.Refusal.TheVariants as Why
use Rattle.paper.specs.declared.Holder.{Holder}
use Rattle.paper.specs.declared.Holder.TheVariants.{Farm, House}
use Rattle.paper.proofs.Choice.{clash, either}
use Rattle.records.specs.Records.{next_place}
use Rattle.std.specs.Prelude.{Result, Ok, Err}
use Rattle.variables.specs.Tables as Tables
use Rattle.variables.specs.Tables.{most, sound, scanned, scan, checked}
use Rattle.variables.specs.Judgements.{bad_table_at, scanned_then, behind_own, scanned_both, judged, Judgement, good, long_text, bad_table, judged_by, judgement}

-- a scan finds a table good, or bad at a place
data Scanned : Result ℕ BadTable → Type 0 where
  well : (count : ℕ) → Scanned (Ok count)
  bad : (place : ℕ) → Scanned (Tables.bad_table_at Why.BadTable place)

scanned_so : (table : List ℕ) (left count place : ℕ) → Scanned (scanned left count table place)
unfolding scanned
scanned_so table zero count place = either Scanned (leb (length table) place) (λ _. well count) (λ _. bad place)
scanned_so table (suc left) count place =
    either Scanned (leb (length table) place) (λ _. well count)
    (λ _. either Scanned (sound table place) (λ _. scanned_so table left (suc count) (next_place table place)) (λ _. bad place))

-- what is told of a scan that found a table good, or of one that did not
pub told_good : (holder : Holder) (r : Result ℕ BadTable) {n : ℕ} → Ok n ≡ scanned_then holder r Ok → r ≡ Ok n
told_good holder (Ok count) {n} e =
    let same : n ≡ count = cc in
    ap Ok (sym same)
told_good holder (Err b) e = clash (cc)

-- a table that is not too long is checked by its scan alone
pub checked_short : (table : List ℕ) → length table ≤ longest → checked table ≡ scan table
unfolding checked
checked_short table h = rw (le-ltb longest (length table) h)

-- what the judgement of two tables comes to, and when
pub data Case (farm house : List ℕ) : Result ℕ BadTableOf → Type 0 where
  long_farm : longest < length farm → Case farm house (bad_table_at Why.OverLength Farm 0)
  long_house : length farm ≤ longest → longest < length house → Case farm house (bad_table_at Why.OverLength House 0)
  bad_farm :
      length farm ≤ longest → length house ≤ longest → (place : ℕ) → checked farm ≡ Tables.bad_table_at Why.BadTable place →
      Case farm house (bad_table_at Why.BadTable Farm place)
  bad_house :
      length farm ≤ longest → length house ≤ longest → (own : ℕ) → checked farm ≡ Ok own →
      (place : ℕ) → checked house ≡ Tables.bad_table_at Why.BadTable place →
      Case farm house (bad_table_at Why.BadTable House place)
  both_good :
      length farm ≤ longest → length house ≤ longest → (own : ℕ) → checked farm ≡ Ok own → (count : ℕ) → checked house ≡ Ok count →
      Case farm house (Ok (own + count))

module _ (farm house : List ℕ) where
  scanned_case :
      length farm ≤ longest → length house ≤ longest →
      Case farm house (scanned_both farm house)
  scanned_case f h = of_farm (scanned_so farm most 0 0) (checked_short farm f)
    where
      of_house :
          (own : ℕ) → checked farm ≡ Ok own → {r : Result ℕ BadTable} → Scanned r → checked house ≡ r →
          Case farm house (scanned_then House r (behind_own own))
      of_house own e (well count) q = both_good f h own e count q
      of_house own e (bad place) q = bad_house f h own e place q

      of_farm :
          {r : Result ℕ BadTable} → Scanned r → checked farm ≡ r →
          Case farm house (scanned_then Farm r (λ own. scanned_then House (scan house) (behind_own own)))
      of_farm (well own) e = of_house own e (scanned_so house most 0 0) (checked_short house h)
      of_farm (bad place) e = bad_farm f h place e

  pub judged_case : Case farm house (judged farm house)
  unfolding judged
  judged_case = go (dec_lt longest (length farm)) (dec_lt longest (length house))
    where
      go : Dec (longest < length farm) → Dec (longest < length house) → Case farm house (judged farm house)
      go (yes p) d = rw (lt-ltb longest (length farm) p) (long_farm p)
      go (no p) (yes q) = rw (le-ltb longest (length farm) (omega arith), lt-ltb longest (length house) q) (long_house (omega arith) q)
      go (no p) (no q) =
          rw (le-ltb longest (length farm) (omega arith), le-ltb longest (length house) (omega arith)) (scanned_case (omega arith) (omega arith))

-- and it comes to nothing else
pub judged_so : (farm house : List ℕ) {r : Result ℕ BadTableOf} → Case farm house r → judged farm house ≡ r
unfolding judged
judged_so farm house (long_farm l) = rw (lt-ltb longest (length farm) l)
judged_so farm house (long_house f l) = rw (le-ltb longest (length farm) f, lt-ltb longest (length house) l)
judged_so farm house (bad_farm f h place b) =
    rw (le-ltb longest (length farm) f, le-ltb longest (length house) h, sym (checked_short farm f) ∙ b)
judged_so farm house (bad_house f h own g place b) =
    rw (le-ltb longest (length farm) f, le-ltb longest (length house) h, sym (checked_short farm f) ∙ g, sym (checked_short house h) ∙ b)
judged_so farm house (both_good f h own g count b) =
    rw (le-ltb longest (length farm) f, le-ltb longest (length house) h, sym (checked_short farm f) ∙ g, sym (checked_short house h) ∙ b)

module _ (text farm house : List ℕ) where
  -- a text that is too long
  pub over : longest < length text → judgement text farm house ≡ long_text
  over h = rw (lt-ltb longest (length text) h)

  -- any other goes by the judgement of its tables
  pub within : length text ≤ longest → judgement text farm house ≡ judged_by (judged farm house)
  within h = rw (le-ltb longest (length text) h)

  not_text : (r : Result ℕ BadTableOf) → judged_by r ≡ long_text → ⊥
  not_text (Ok count) e = clash (cc)
  not_text (Err b) e = clash (cc)

  -- so the text is found too long exactly when it is
  pub over_exactly : (judgement text farm house ≡ long_text) ↔ (longest < length text)
  over_exactly = (λ e. go (dec_lt longest (length text)) e, over)
    where
      go : Dec (longest < length text) → judgement text farm house ≡ long_text → longest < length text
      go (yes p) e = p
      go (no p) e = absurd (not_text (judged farm house) (sym (within (omega arith)) ∙ e))

  module _ {c : Judgement} (e : judgement text farm house ≡ c) (other : c ≡ long_text → ⊥) where
    -- a finding that is not of the text
    not_over : length text ≤ longest
    not_over = go (dec_lt longest (length text)) where
      go : Dec (longest < length text) → length text ≤ longest
      go (yes p) = absurd (other (sym e ∙ over p))
      go (no p) = omega arith

    by_tables : judged_by (judged farm house) ≡ c
    by_tables = sym (within not_over) ∙ e

  -- the text is read only where it is not too long and its tables are good
  pub read : judgement text farm house ≡ good → (length text ≤ longest) × ((n : ℕ) × (judged farm house ≡ Ok n))
  read e = (not_over e other, is_good_lem (judged farm house) (by_tables e other))
    where
      other : good ≡ long_text → ⊥
      other q = clash (cc)

      is_good_lem : (r : Result ℕ BadTableOf) → judged_by r ≡ good → (n : ℕ) × (r ≡ Ok n)
      is_good_lem (Ok n) q = (n, refl)
      is_good_lem (Err b) q = clash (cc)

  -- a finding of a table is the tables' own
  pub refused :
      (why : Refusal) (holder : Holder) (place : ℕ) → judgement text farm house ≡ bad_table why holder place →
      (length text ≤ longest) × (judged farm house ≡ bad_table_at why holder place)
  refused why holder place e = (not_over e other, is_bad (judged farm house) (by_tables e other))
    where
      other : bad_table why holder place ≡ long_text → ⊥
      other q = clash (cc)

      is_bad : (r : Result ℕ BadTableOf) → judged_by r ≡ bad_table why holder place → r ≡ bad_table_at why holder place
      is_bad (Ok n) q = clash (cc)
      is_bad (Err b) q =
          let same_why : b.why ≡ why = cc in
          let same_holder : b.holder ≡ holder = cc in
          let same_place : b.at.0 ≡ place = cc in
          ap (λ w. bad_table_at w b.holder b.at.0) same_why ∙ ap (λ h. bad_table_at why h b.at.0) same_holder ∙ ap (bad_table_at why holder) same_place

-- tables that are found good are good
pub record BothGood (farm house : List ℕ) (count : ℕ) : Type 0 where
  pub own : ℕ
  pub rest : ℕ
  pub farm_short : length farm ≤ longest
  pub house_short : length house ≤ longest
  pub farm_good : checked farm ≡ Ok own
  pub house_good : checked house ≡ Ok rest
  pub counted : own + rest ≡ count

pub both_are : (farm house : List ℕ) {count : ℕ} → judged farm house ≡ Ok count → BothGood farm house count
both_are farm house {count} e = go (judged_case farm house) e
  where
    go : {r : Result ℕ BadTableOf} → Case farm house r → r ≡ Ok count → BothGood farm house count
    go (long_farm l) q = clash (cc)
    go (long_house f l) q = clash (cc)
    go (bad_farm f h p b) q = clash (cc)
    go (bad_house f h o g p b) q = clash (cc)
    go (both_good f h o g c b) q =
        let n : o + c ≡ count = cc in
        record { own = o; rest = c; farm_short = f; house_short = h; farm_good = g; house_good = b; counted = n }
