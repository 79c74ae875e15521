-- The date of a day's number is a date that there is, has that number, and is the only one that has it; and which years are leap years.
use mathlib.Core.Bool.{Bool, true, false, cond, not, ◌&&◌, ◌||◌}
use mathlib.Core.Path.{◌≡◌, refl, ap, ap₂, sym, subst, ◌∙◌}
use Prim.Native.Nat.{ℕ, suc, ◌+◌, ◌-◌, ◌%◌, ◌≤◌, ◌<◌}
use native.Mathlib.Decide.{dec_lt}
use native.Mathlib.Omega.{arith}
use lib.Dec.{eqb}
use Rattle.calendar.specs.Counting.{leap, year_length, month_length, total, years, months, first_day}
use Rattle.calendar.specs.Dates.{Date, IsDate, day_number, last_begun, years_by, days_into, months_by, date_in, date_of}
use Rattle.calendar.proofs.Totals.{total_suc, later, begun_within, begun, next_not_begun, begun_is}
use Rattle.calendar.proofs.InYears.{length_range}
use Rattle.calendar.proofs.InMonths.{passes, passed}

last_first_day : first_day 348 ≡ 127104
unfolding total
last_first_day = refl

-- a year's months make up the year
months_long : (leap : Bool) → total (months leap) 12 ≡ year_length leap
unfolding total
months_long true = refl
months_long false = refl

module _ (day : ℕ) (early : day < 127259) where
  -- a day lies in its year
  pub within_year : days_into day < year_length (leap (1900 + years_by day))
  within_year = go (dec_lt (years_by day) 348)
    where
      go : Dec (years_by day < 348) → days_into day < year_length (leap (1900 + years_by day))
      go (yes h) = omega (arith, next_not_begun years 348 day h, total_suc years (years_by day), begun years 348 day)
      go (no h) =
          let e : years_by day ≡ 348 = omega (arith, begun_within years 348 day) in
          omega (arith, ap first_day e, last_first_day, (length_range (leap (1900 + years_by day))).0)

-- a day of a year lies in its month
module _ (leap : Bool) (day : ℕ) (inside : day < year_length leap) where
  abbrev before : ℕ
  before = last_begun (months leap) 11 day

  pub within_month : day < total (months leap) before + month_length leap (suc before)
  within_month = go (dec_lt before 11)
    where
      go : Dec (before < 11) → day < total (months leap) before + month_length leap (suc before)
      go (yes h) = omega (arith, next_not_begun (months leap) 11 day h, total_suc (months leap) before)
      go (no h) =
          let e : suc before ≡ 12 = omega (arith, begun_within (months leap) 11 day) in
          omega (arith, ap (total (months leap)) e, months_long leap, total_suc (months leap) before)

-- the months before a day of a date, and the days of its month before it, lie in its year
module _ (d : Date) (is : IsDate d) where
  abbrev l : Bool
  l = leap d.year

  abbrev inside : ℕ
  inside = total (months l) (d.month - 1) + (d.day - 1)

  month_back : suc (d.month - 1) ≡ d.month
  month_back = omega (arith, is.first_month)

  in_month : inside < total (months l) (suc (d.month - 1))
  in_month =
      let long : month_length l (suc (d.month - 1)) ≡ month_length l d.month = ap (month_length l) month_back in
      omega (arith, is.from_day_one, is.last_day, long, total_suc (months l) (d.month - 1))

  in_year : inside < year_length l
  in_year = omega (arith, in_month, later (months l) (suc (d.month - 1)) 12 (omega (arith, is.last_month)), months_long l)

  month_is : months_by d.year inside ≡ d.month - 1
  month_is = begun_is (months l) 11 inside (d.month - 1) (omega (arith, is.last_month)) (omega arith) (λ _. in_month)

  date_in_lem : date_in d.year inside ≡ d
  date_in_lem =
      ap (λ before. record { year = d.year; month = suc before; day = suc (inside - total (months l) before) }) month_is
      ∙ ap₂ (λ m k. record { year = d.year; month = m; day = k }) month_back (omega (arith, is.from_day_one))

module _ (day : ℕ) (early : day < 127259) where
  -- a day of a year behind 2248 comes later
  up_to_2248 : (n : ℕ) → first_day n ≤ day → n ≤ 348
  up_to_2248 n h = go (dec_lt 348 n)
    where
      go : Dec (348 < n) → n ≤ 348
      go (yes more) = absurd (omega (arith, later years 349 n more, total_suc years 348, last_first_day, (length_range (leap 2248)).0))
      go (no less) = omega arith

  pub date_only : (d : Date) → IsDate d → day_number d ≡ day → d ≡ date_of day
  unfolding date_of
  date_only d is e =
      let n = d.year - 1900 in
      let back : 1900 + n ≡ d.year = omega (arith, is.from_1900) in
      let begun_by : first_day n ≤ day = omega arith in
      let long : year_length (leap (1900 + n)) ≡ year_length (leap d.year) = ap (λ y. year_length (leap y)) back in
      let year_is : years_by day ≡ n =
      begun_is years 348 day n (up_to_2248 n begun_by) begun_by (λ _. omega (arith, in_year d is, total_suc years n)) in
      sym (ap (λ k. date_in (1900 + k) (day - first_day k)) year_is ∙ ap₂ date_in back (omega arith) ∙ date_in_lem d is)

  pub date_is : IsDate (date_of day) × (day_number (date_of day) ≡ day)
  unfolding date_of
  date_is =
      let n = years_by day in
      let l = leap (1900 + n) in
      let before = months_by (1900 + n) (days_into day) in
      let year_back : 1900 + n - 1900 ≡ n = omega arith in
      let month_back : suc before - 1 ≡ before = omega arith in
      let inside = within_month l (days_into day) (within_year day early) in
      let began = begun (months l) 11 (days_into day) in (
        record {
          from_1900 = omega arith;
          first_month = omega arith;
          last_month = omega (arith, begun_within (months l) 11 (days_into day));
          from_day_one = omega arith;
          last_day = omega arith;
        },
        ap₂ (λ y m. first_day y + total (months l) m + (suc (days_into day - total (months l) before) - 1)) year_back month_back
            ∙ omega (arith, begun years 348 day),
      )

-- every fourth year, but of the hundreds only every fourth
abbrev rule : ℕ → Bool
rule year = eqb (year % 4) 0 && (not (eqb (year % 100) 0) || eqb (year % 400) 0)

abbrev agrees : ℕ → Bool
agrees n = cond (leap (1900 + n)) (rule (1900 + n)) (not (rule (1900 + n)))

alike : (a b : Bool) → cond a b (not b) ≡ true → a ≡ b
alike true true e = refl
alike true false e = sym e
alike false true e = e
alike false false e = refl

all_agree : passes agrees 349 ≡ true
all_agree = refl

pub gregorian : (year : ℕ) → 1900 ≤ year → year ≤ 2248 → leap year ≡ (eqb (year % 4) 0 && (not (eqb (year % 100) 0) || eqb (year % 400) 0))
gregorian year low high =
    let back : 1900 + (year - 1900) ≡ year = omega arith in
    subst (λ y. leap y ≡ rule y) back
    (alike (leap (1900 + (year - 1900))) (rule (1900 + (year - 1900))) (passed agrees 349 all_agree (year - 1900) (omega arith)))
