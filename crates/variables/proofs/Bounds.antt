-- Every answer has a number that is listed, a place up to 65,535, up to 256 records of a table, and a kind up to 2.
use mathlib.Core.Bool.{false}
use mathlib.Core.List.Memᴰ.{head}
use mathlib.Core.List.Memᴰ.{tail}
use mathlib.Core.List.{List, Memᴰ}
use mathlib.Core.Logic.{◌↔◌}
use mathlib.Core.Path.{◌≡◌, refl, ap, subst}
use Prim.Native.Nat.{ℕ, zero, suc, ◌+◌, ◌≤◌, ◌<◌}
use native.Mathlib.Omega.{arith}
use borrow.Author.Tests.{leb-false, ltb-true, ltb-false}
use lib.Dec.{ltb, leb}
use lib.ListN.{length, get_or}
use Rattle.paper.specs.Refusals.{refusal_number, allowance_spent, over_length, longest}
use Rattle.paper.specs.declared.refusals.BadTable.{BadTable}
use Rattle.paper.specs.declared.refusals.BadTableOf.{BadTableOf}
use Rattle.paper.specs.declared.refusals.Refusal.{Refusal}
use Rattle.paper.specs.declared.refusals.Refusal.TheVariants as Why
use Rattle.paper.specs.declared.Holder.{Holder}
use Rattle.paper.specs.declared.Holder.TheVariants.{Farm, House}
use Rattle.paper.proofs.Choice.{clash, either}
use Rattle.records.specs.Records.{next_place}
use Rattle.std.specs.Prelude.{Result, Ok, Err}
use Rattle.variables.specs.Tables as Tables
use Rattle.variables.specs.Tables.{most, Sought, absent, present, sound, scanned, scan, checked, records_of, sought_in, check_number, check_place, check_count, check_numbers}
use Rattle.variables.specs.Holdings.{held_by}
use Rattle.variables.specs.Judgements.{bad_table_at, judged}
use Rattle.variables.proofs.Judging.{Case, long_farm, long_house, bad_farm, bad_house, both_good, judged_case}

pub record Bounded (r : Result ℕ BadTable) : Type 0 where
  pub number : check_number r ≤ 255
  pub place : check_place r ≤ longest
  pub count : check_count r ≤ most
  pub listed : Memᴰ (check_number r) check_numbers
  -- a refusal has a number that is neither that of No room nor of Allowance spent
  pub refused : (why : BadTable) → r ≡ Err why → allowance_spent < refusal_number why.why

module _ (table : List ℕ) (short : length table ≤ longest) where
  good : (count : ℕ) → count ≤ most → Bounded (Ok count)
  good count c = record { number = omega arith; place = omega arith; count = c; listed = head refl; refused = λ b e. clash (cc) }

  bad : (place : ℕ) → leb (length table) place ≡ false → Bounded (Tables.bad_table_at Why.BadTable place)
  bad place e =
      let h = leb-false (length table) place e in
      record {
        number = omega arith;
        place = omega arith;
        count = omega arith;
        listed = tail (tail (head refl));
        refused = λ b q. let same : Why.BadTable ≡ b.why = cc in omega (arith, ap refusal_number same);
      }

  scanned_bounded : (left count place : ℕ) → count + left ≤ most → Bounded (scanned left count table place)
  unfolding scanned
  scanned_bounded zero count place c = either Bounded (leb (length table) place) (λ _. good count (omega arith)) (bad place)
  scanned_bounded (suc left) count place c =
      either Bounded (leb (length table) place) (λ _. good count (omega arith))
      (λ e. either Bounded (sound table place) (λ _. scanned_bounded left (suc count) (next_place table place) (omega arith)) (λ _. bad place e))

pub checked_bounded : (table : List ℕ) → Bounded (checked table)
unfolding checked
checked_bounded table =
    either Bounded (ltb longest (length table))
    (λ _. record {
      number = omega arith;
      place = omega arith;
      count = omega arith;
      listed = tail (head refl);
      refused = λ b q. let same : Why.OverLength ≡ b.why = cc in omega (arith, ap refusal_number same);
    })
    (λ e. scanned_bounded table (ltb-false longest (length table) e) most 0 0 (omega arith))

-- a table whose check has no refusal's number is good
pub good_table : (table : List ℕ) → check_number (checked table) ≡ 0 → (n : ℕ) × (checked table ≡ Ok n)
good_table table = go (checked table) refl
  where
    go : (r : Result ℕ BadTable) → checked table ≡ r → check_number r ≡ 0 → (n : ℕ) × (r ≡ Ok n)
    go (Ok n) e z = (n, refl)
    go (Err b) e z = absurd (omega (arith, (checked_bounded table).refused b e))

-- a scan counts no more than 256 records
pub count_bounded : (table : List ℕ) {n : ℕ} → length table ≤ longest → scan table ≡ Ok n → n ≤ most
count_bounded table short e = subst (λ r. check_count r ≤ most) e (scanned_bounded table short most 0 0 (omega arith)).count

-- a scan never finds that a table is too long
scanned_short : (table : List ℕ) (left count place : ℕ) → check_number (scanned left count table place) ≡ over_length → ⊥
unfolding scanned
scanned_short table zero count place =
    either (λ r. check_number r ≡ over_length → ⊥) (leb (length table) place) (λ _ e. omega arith) (λ _ e. omega arith)
scanned_short table (suc left) count place =
    either (λ r. check_number r ≡ over_length → ⊥) (leb (length table) place) (λ _ e. omega arith)
    (λ _. either (λ r. check_number r ≡ over_length → ⊥) (sound table place) (λ _. scanned_short table left (suc count) (next_place table place)) (λ _ e. omega arith))

-- 18 comes exactly where a table is too long
pub over_length_exactly : (table : List ℕ) → (check_number (checked table) ≡ over_length) ↔ (longest < length table)
unfolding checked
over_length_exactly table =
    either (λ r. (check_number r ≡ over_length) ↔ (longest < length table)) (ltb longest (length table))
    (λ e. (λ _. ltb-true longest (length table) e, λ _. refl))
    (λ e. (λ h. absurd (scanned_short table most 0 0 h), λ h. absurd (omega (arith, h, ltb-false longest (length table) e))))

-- the judgement of any bytes. A refusal has a number that is neither that of No room nor of Allowance spent
abbrev pub Within : Result ℕ BadTableOf → Type 0
Within (Ok count) = count ≤ most + most
Within (Err bad) =
    (refusal_number bad.why ≤ 255) × (bad.at.0 ≤ longest) × Memᴰ (refusal_number bad.why) check_numbers × (allowance_spent < refusal_number bad.why)

pub judged_within : (farm house : List ℕ) → Within (judged farm house)
judged_within farm house = go (judged_case farm house)
  where
    over : (holder : Holder) → Within (bad_table_at Why.OverLength holder 0)
    over holder = (omega arith, omega arith, tail (head refl), omega arith)

    bad_at : (table : List ℕ) (holder : Holder) (place : ℕ) → checked table ≡ Tables.bad_table_at Why.BadTable place → Within (bad_table_at Why.BadTable holder place)
    bad_at table holder place e =
        let within = subst (λ r. check_place r ≤ longest) e (checked_bounded table).place in
        (omega arith, within, tail (tail (head refl)), omega arith)

    counted : (table : List ℕ) {n : ℕ} → checked table ≡ Ok n → n ≤ most
    counted table e = subst (λ r. check_count r ≤ most) e (checked_bounded table).count

    go : {r : Result ℕ BadTableOf} → Case farm house r → Within r
    go (long_farm l) = over Farm
    go (long_house f l) = over House
    go (bad_farm f h place b) = bad_at farm Farm place b
    go (bad_house f h own g place b) = bad_at house House place b
    go (both_good f h own g count b) = omega (arith, counted farm g, counted house b)

pub bad_number : (farm house : List ℕ) (why : Refusal) (holder : Holder) (place : ℕ) → judged farm house ≡ bad_table_at why holder place → allowance_spent < refusal_number why
bad_number farm house why holder place e = (subst Within e (judged_within farm house)).3

-- the bytes of two tables are bytes
abbrev pub AllBytes : List ℕ → List ℕ → Type 0
AllBytes farm house = (holder : Holder) (k : ℕ) → get_or (held_by holder farm house) k 0 ≤ 255

pub all_bytes : (farm house : List ℕ) → ((k : ℕ) → get_or farm k 0 ≤ 255) → ((k : ℕ) → get_or house k 0 ≤ 255) → AllBytes farm house
all_bytes farm house f h Farm k = f k
all_bytes farm house f h House k = h k
