-- The moment of a time, from where its day lies in its year and in its month.
use mathlib.Core.Bool.{Bool}
use mathlib.Core.Path.{◌≡◌, ap, ◌∙◌}
use Prim.Native.Nat.{ℕ, suc, ◌+◌, ◌/◌, ◌%◌}
use native.Mathlib.Numerals.{add-one}
use lib.Arith.{mod-mul}
use native.Mathlib.Omega.{arith}
use Rattle.calendar.specs.Counting.{leap}
use Rattle.calendar.specs.Dates.{date_of}
use Rattle.calendar.specs.Moments.{day_of, moment_at}
use Rattle.calendar.specs.inner.Places.{place_in_year, place_in_month}
use Rattle.calendar.specs.declared.Moment.{Moment}
use Rattle.calendar.specs.declared.passed.Passed.{Passed}

-- a moment from the time of a day, the day's number, and its places
abbrev pub put : ℕ → ℕ → Passed → Passed → Moment
put within day y m =
    record {
      hundredth = within % 100;
      second = within / 100 % 60;
      minute = within / 6000 % 60;
      hour = within / 360000;
      weekday = day % 7;
      yearday = y.days + 1;
      day = m.days + 1;
      month = m.whole + 1;
      year = 1900 + y.whole;
    }

module _ (time : ℕ) where
  abbrev y : Passed
  y = place_in_year (day_of time)

  abbrev m : Passed
  m = place_in_month (leap (1900 + y.whole)) y.days

  placed : put (time % 8640000) (day_of time) y m ≡ moment_at time
  unfolding moment_at date_of
  placed =
      let hundredth : time % 8640000 % 100 ≡ time % 100 = omega arith in
      let seconds : time % 8640000 / 100 ≡ time / 100 % 86400 = omega (arith, mod-mul time {m = 86400} {c = 100} (omega arith) (omega arith)) in
      let second : time % 8640000 / 100 % 60 ≡ time / 100 % 60 = ap (λ n. n % 60) seconds ∙ omega arith in
      let minutes : time % 8640000 / 6000 ≡ time / 6000 % 1440 = omega (arith, mod-mul time {m = 1440} {c = 6000} (omega arith) (omega arith)) in
      let minute : time % 8640000 / 6000 % 60 ≡ time / 6000 % 60 = ap (λ n. n % 60) minutes ∙ omega arith in
      let hour : time % 8640000 / 360000 ≡ time / 360000 % 24 = omega (arith, mod-mul time {m = 24} {c = 360000} (omega arith) (omega arith)) in
      let yearday : y.days + 1 ≡ suc y.days = add-one y.days in
      let day : m.days + 1 ≡ suc m.days = add-one m.days in
      let month : m.whole + 1 ≡ suc m.whole = add-one m.whole in
      rw (hundredth, second, minute, hour, yearday, day, month)

  pub moment_is : (year : Passed) (l : Bool) (month : Passed)
      → year ≡ place_in_year (day_of time) → l ≡ leap (1900 + year.whole) → month ≡ place_in_month l year.days
      → put (time % 8640000) (day_of time) year month ≡ moment_at time
  moment_is year l month e f g =
      ap (put (time % 8640000) (day_of time) year) (g ∙ ap (λ l. place_in_month l year.days) f)
      ∙ ap (λ y. put (time % 8640000) (day_of time) y (place_in_month (leap (1900 + y.whole)) y.days)) e
      ∙ placed
