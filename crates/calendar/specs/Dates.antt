-- Dates: the number of a date's day by counting, and the date of a day's number.
use Rattle.std.specs.Prelude.{cond, ℕ, zero, suc, ◌+◌, ◌-◌, ◌≤◌, leb}
use Rattle.calendar.specs.Counting.{leap, month_length, total, years, months, first_day}

pub record Date : Type 0 where
  pub year : ℕ
  pub month : ℕ
  pub day : ℕ

-- a date that there is, from 1 January 1900 on
pub record IsDate (d : Date) : Type 0 where
  pub from_1900 : 1900 ≤ d.year
  pub first_month : 1 ≤ d.month
  pub last_month : d.month ≤ 12
  pub from_day_one : 1 ≤ d.day
  pub last_day : d.day ≤ month_length (leap d.year) d.month

-- the number of its day: the year's first day, the months before it, and the days before it
abbrev pub day_number : Date → ℕ
day_number d = first_day (d.year - 1900) + total (months (leap d.year)) (d.month - 1) + (d.day - 1)

-- the last of 0 to `most` that has begun by a day, where one follows the other by some lengths
unfoldable pub last_begun : (ℕ → ℕ) → ℕ → ℕ → ℕ
last_begun lengths zero day = 0
last_begun lengths (suc most) day =
    let earlier = last_begun lengths most day in cond (leb (total lengths (suc most)) day) (suc most) earlier

-- the years from 1900 up to the one that a day falls into, 2248 at the latest
abbrev pub years_by : ℕ → ℕ
years_by day = last_begun years 348 day

-- how many days of that year lie before it
abbrev pub days_into : ℕ → ℕ
days_into day = day - first_day (years_by day)

-- how many whole months lie before a day of a year
abbrev pub months_by : ℕ → ℕ → ℕ
months_by year day = last_begun (months (leap year)) 11 day

-- the date whose day has a number: that year, that month, and what is left
abbrev pub date_in : ℕ → ℕ → Date
date_in year day =
    let before = months_by year day in
    record { year = year; month = suc before; day = suc (day - total (months (leap year)) before) }

unfoldable pub date_of : ℕ → Date
date_of day = date_in (1900 + years_by day) (days_into day)
