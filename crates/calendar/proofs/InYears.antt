-- The year of a day by a division and a step.
use mathlib.Core.Bool.{Bool, true, false}
use mathlib.Core.Path.{◌≡◌, ap, sym, subst}
use Prim.Native.Nat.{ℕ, zero, suc, ◌+◌, ◌-◌, ◌*◌, ◌/◌, ◌≤◌, ◌<◌}
use native.Mathlib.Omega.{arith}
use Rattle.calendar.specs.Counting.{leap, year_length, total, years, first_day}
use Rattle.calendar.specs.Dates.{years_by}
use Rattle.calendar.specs.inner.Places.{place_in_year}
use Rattle.calendar.proofs.Totals.{total_suc, begun_is}

-- a year has 365 days at least, and 366 at most
pub length_range : (leap : Bool) → (365 ≤ year_length leap) × (year_length leap ≤ 366)
length_range true = (omega arith, omega arith)
length_range false = (omega arith, omega arith)

pub first_day_range : (n : ℕ) → (365 * n ≤ first_day n) × (first_day n ≤ 366 * n)
unfolding total
first_day_range zero = (omega arith, omega arith)
first_day_range (suc n) =
    let earlier = first_day_range n in
    let this = length_range (leap (1900 + n)) in
    (omega (arith, earlier.0, this.0, total_suc years n), omega (arith, earlier.1, this.1, total_suc years n))

-- the year that a division by 365 names has not ended, and the one before it has begun
module _ (day : ℕ) (early : day < 127259) where
  placed : (n : ℕ) → years_by day ≡ n → record { whole = n; days = day - first_day n } ≡ place_in_year day
  placed n e = ap (λ k. record { whole = k; days = day - first_day k }) (sym e)

  pub this_year : first_day (day / 365) ≤ day → record { whole = day / 365; days = day - first_day (day / 365) } ≡ place_in_year day
  this_year begun =
      let n = day / 365 in
      placed n (begun_is years 348 day n (omega arith) begun (λ _. omega (arith, (first_day_range (suc n)).0)))

  pub begun_before : day < first_day (day / 365) → (1 ≤ day / 365) × (first_day (day / 365 - 1) ≤ day)
  begun_before later =
      let n = day / 365 in
      (omega (arith, (first_day_range n).1), omega (arith, (first_day_range (n - 1)).1))

  pub year_before : day < first_day (day / 365) → record { whole = day / 365 - 1; days = day - first_day (day / 365 - 1) } ≡ place_in_year day
  year_before later =
      let n = day / 365 - 1 in
      let e : suc n ≡ day / 365 = omega (arith, (begun_before later).0) in
      placed n (begun_is years 348 day n (omega arith) (begun_before later).1 (λ _. subst (λ k. day < first_day k) (sym e) later))
