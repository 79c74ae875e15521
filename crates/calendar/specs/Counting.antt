-- How long years and months are, and how many days lie before one.
use Rattle.std.specs.Prelude.{Bool, cond, not, ◌&&◌, ◌||◌, ℕ, zero, suc, ◌+◌, ◌%◌, eqb}

-- every fourth year has a 29 February, but 1900, 2100 and 2200 have none
abbrev pub leap : ℕ → Bool
leap year = eqb (year % 4) 0 && not (eqb year 1900 || (eqb year 2100 || eqb year 2200))

abbrev pub year_length : Bool → ℕ
year_length leap = cond leap 366 365

-- January is month 1
abbrev pub month_length : Bool → ℕ → ℕ
month_length leap month =
    cond (eqb month 2) (cond leap 29 28) (cond (eqb month 4 || (eqb month 6 || (eqb month 9 || eqb month 11))) 30 31)

-- what the first n of some lengths come to
unfoldable pub total : (ℕ → ℕ) → ℕ → ℕ
total lengths zero = 0
total lengths (suc n) = total lengths n + lengths n

-- the lengths of the years from 1900 on, and of the months of a year
abbrev pub years : ℕ → ℕ
years n = year_length (leap (1900 + n))

abbrev pub months : Bool → ℕ → ℕ
months leap n = month_length leap (suc n)

-- the number of a year's first day, 1 January 1900 being 0: the days of all years before it
abbrev pub first_day : ℕ → ℕ
first_day n = total years n
