-- `moment_of` meets its contract: five bytes hold no day behind the last that the table knows.
use mathlib.Core.Bool.{Bool}
use mathlib.Core.Path.{◌≡◌, sym, subst}
use Prim.Native.Nat.{ℕ, ◌+◌, ◌*◌, ◌≤◌, ◌<◌}
use native.Mathlib.Omega.{arith}
use Rattle.calendar.specs.Counting.{leap, year_length, years, months}
use Rattle.calendar.specs.inner.Places.{place_in_year, place_in_month}
use Rattle.calendar.specs.declared.passed.Passed.{Passed}
use Rattle.calendar.proofs.Totals.{begun_within}
use Rattle.calendar.proofs.InYears.{length_range}
use Rattle.calendar.proofs.DateLaws.{within_year}
use Rattle.calendar.proofs.MomentLaws.{moment_is}
use Rattle.calendar.proofs.moment_of.Goals as goal

-- where a day lies in its year
module _ (day : ℕ) (place : Passed) (is : place ≡ place_in_year day) where
  few_years : place.whole ≤ 348
  few_years = subst (λ y. y.whole ≤ 348) (sym is) (begun_within years 348 day)

  inside : day < 127259 → place.days < year_length (leap (1900 + place.whole))
  inside early = subst (λ y. y.days < year_length (leap (1900 + y.whole))) (sym is) (within_year day early)

  few_days : day < 127259 → place.days < 366
  few_days early = omega (arith, inside early, (length_range (leap (1900 + place.whole))).1)

-- a month and a day of it are no more than the day of the year
few_months : (l : Bool) (day : ℕ) (date : Passed) → date ≡ place_in_month l day → (date.whole ≤ 11) × (date.days ≤ day)
few_months l day date is = subst (λ m. (m.whole ≤ 11) × (m.days ≤ day)) (sym is) (begun_within (months l) 11 day, omega arith)

pub overflow_add-year : goal.overflow_add-year
overflow_add-year c = record { fits = omega (arith, few_years _ _ c.in_year-years.ensures) }

pub in_month-months-requires : goal.in_month-months-requires
in_month-months-requires c =
    subst (λ l. c.in_year-years.result.days < year_length l) (sym c.has_29_february.ensures) (inside _ _ c.in_year-years.ensures (omega arith))

pub overflow_add-result : goal.overflow_add-result
overflow_add-result c = record { fits = omega (arith, few_days _ _ c.in_year-years.ensures (omega arith)) }

pub overflow_add-result-2 : goal.overflow_add-result-2
overflow_add-result-2 c =
    record { fits = omega (arith, few_days _ _ c.in_year-years.ensures (omega arith), (few_months _ _ _ c.in_month-months.ensures).1) }

pub overflow_add-result-3 : goal.overflow_add-result-3
overflow_add-result-3 c = record { fits = omega (arith, (few_months _ _ _ c.in_month-months.ensures).0) }

pub returns : goal.returns
returns c =
    rw (← c.from.ensures, ← c.from-2.ensures) (
    moment_is (c.from.result + 4294967296 * c.from-2.result) c.in_year-years.result c.has_29_february.result c.in_month-months.result
    c.in_year-years.ensures c.has_29_february.ensures c.in_month-months.ensures
    )
