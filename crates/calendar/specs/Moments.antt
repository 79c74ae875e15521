-- The moment of a time.
use Rattle.std.specs.Prelude.{ℕ, suc, ◌/◌, ◌%◌}
use Rattle.calendar.specs.Dates.{days_into, date_of}
use Rattle.calendar.specs.declared.Moment.{Moment}

-- the number of the day that a time falls into: a day has 24 hours of 60 minutes of 60 seconds of 100 hundredths
abbrev pub day_of : ℕ → ℕ
day_of time = time / 8640000

-- of a time in hundredths of a second since 00:00:00 on 1 January 1900, which was a Monday
unfoldable pub moment_at : ℕ → Moment
moment_at time =
    let date = date_of (day_of time) in
    record {
      hundredth = time % 100;
      second = time / 100 % 60;
      minute = time / 6000 % 60;
      hour = time / 360000 % 24;
      weekday = day_of time % 7;
      yearday = suc (days_into (day_of time));
      day = date.day;
      month = date.month;
      year = date.year;
    }
