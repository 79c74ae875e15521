-- What inner functions give.
use Rattle.std.specs.Prelude.{Bool, not, ◌&&◌, List, ℕ, ◌+◌, ◌/◌, ◌%◌, eqb, length, Result, Ok, Err}
use Rattle.calendar.specs.declared.Moment.{Moment}
use Rattle.dates.specs.Fields.{shown}
use Rattle.dates.specs.Formats.{Layout, ended, copies, shows, bad_field_at}
use Rattle.dates.specs.declared.fields.Field.{Field}
use Rattle.dates.specs.declared.fields.Field.TheVariants.{Hundredths, Seconds, Minutes, Hours, Day, Month, MonthName, Century, Year, DayOfYear, WeekdayName}
use Rattle.dates.specs.declared.fields.Glyphs.{Glyphs}
use Rattle.dates.specs.declared.fields.Glyphs.TheVariants.{Two, Three}
use Rattle.dates.specs.declared.render.BadField.{BadField}

-- a byte that stands for itself: neither the zero that ends a format, nor a percent sign
abbrev pub plain_byte : ℕ → Bool
plain_byte c = not (eqb c 0) && not (eqb c 37)

-- the bytes of what a field shows
abbrev pub glyphs : Glyphs → List ℕ
glyphs (Two shown) = shown
glyphs (Three shown) = shown

-- the number that a field shows, or that its name has among the months or the weekdays
unfoldable pub number : Field → Moment → ℕ
number Hundredths m = m.hundredth
number Seconds m = m.second
number Minutes m = m.minute
number Hours m = m.hour
number Day m = m.day
number Month m = m.month
number MonthName m = m.month
number Century m = m.year / 100
number Year m = m.year % 100
number DayOfYear m = m.yearday
number WeekdayName m = m.weekday

-- how many characters a layout comes to behind some, or its first bad field
abbrev pub rendered : Moment → ℕ → Layout → Result ℕ BadField
rendered m n ended = Ok n
rendered m n (copies c rest) = rendered m (n + 1) rest
rendered m n (shows field rest) = rendered m (n + length (shown field m)) rest
rendered m n (bad_field_at at) = Err (record { at = record { 0 = at } })
