-- What has passed before a day: years and days of its year, months and days of its month.
use Rattle.std.specs.Prelude.{Bool, cond, ℕ, ◌+◌, ◌-◌, ltb}
use Rattle.calendar.specs.Counting.{total, months}
use Rattle.calendar.specs.Dates.{last_begun, years_by, days_into}
use Rattle.calendar.specs.declared.passed.Passed.{Passed}

abbrev pub place_in_year : ℕ → Passed
place_in_year day = record { whole = years_by day; days = days_into day }

abbrev pub place_in_month : Bool → ℕ → Passed
place_in_month leap day =
    let before = last_begun (months leap) 11 day in record { whole = before; days = day - total (months leap) before }

-- the number of a day in a year with a 29 February
abbrev pub in_leap_year : Bool → ℕ → ℕ
in_leap_year leap day = cond leap day (cond (ltb day 59) day (day + 1))
