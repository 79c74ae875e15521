-- The fields: their names, and what each shows of a moment.
use Rattle.std.specs.Prelude.{false, cond, Option, Some, None, List, [], ◌∷◌, ℕ, ◌+◌, ◌-◌, ◌*◌, ◌/◌, ◌%◌, eqb, get_or}
use Prim.Native.Char.{code}
use Prim.Native.String.{String, char_at}
use Rattle.paper.specs.Texts.{bytes}
use Rattle.forms.specs.Digits.{digits}
use Rattle.calendar.specs.declared.Moment.{Moment}
use Rattle.dates.specs.declared.fields.Field.{Field}
use Rattle.dates.specs.declared.fields.Field.TheVariants.{Hundredths, Seconds, Minutes, Hours, Day, Month, MonthName, Century, Year, DayOfYear, WeekdayName}

-- two characters as one number
abbrev pub pair : ℕ → ℕ → ℕ
pair a b = 256 * a + b

-- the two characters of a name
abbrev pub name : String → ℕ
name s = pair (code (char_at s 0)) (code (char_at s 1))

-- the field that two characters name, in capitals; no others name one
unfoldable pub date_field : ℕ → Option Field
date_field n =
    cond (eqb n (name "DY")) (Some Day)
    (cond (eqb n (name "MN")) (Some Month)
    (cond (eqb n (name "M3")) (Some MonthName)
    (cond (eqb n (name "CE")) (Some Century)
    (cond (eqb n (name "YR")) (Some Year)
    (cond (eqb n (name "DN")) (Some DayOfYear)
    (cond (eqb n (name "W3")) (Some WeekdayName)
    None))))))

unfoldable pub field_named : ℕ → Option Field
field_named n =
    let date = date_field n in
    cond (eqb n (name "CS")) (Some Hundredths)
    (cond (eqb n (name "SE")) (Some Seconds)
    (cond (eqb n (name "MI")) (Some Minutes)
    (cond (eqb n (name "24")) (Some Hours)
    date)))

-- the last two digits of a number
abbrev pub two : ℕ → List ℕ
two n = digits 10 false 2 n

abbrev pub three : ℕ → List ℕ
three n = digits 10 false 3 n

-- one of some names of three letters, counted from 0
abbrev pub lettered : List ℕ → ℕ → List ℕ
lettered names n = get_or names (3 * n) 0 ∷ get_or names (3 * n + 1) 0 ∷ get_or names (3 * n + 2) 0 ∷ []

abbrev pub month_names : List ℕ
month_names = bytes "JanFebMarAprMayJunJulAugSepOctNovDec"

abbrev pub weekday_names : List ℕ
weekday_names = bytes "MonTueWedThuFriSatSun"

-- what a field shows
unfoldable pub shown : Field → Moment → List ℕ
shown Hundredths m = two m.hundredth
shown Seconds m = two m.second
shown Minutes m = two m.minute
shown Hours m = two m.hour
shown Day m = two m.day
shown Month m = two m.month
shown MonthName m = lettered month_names (m.month - 1)
shown Century m = two (m.year / 100)
shown Year m = two (m.year % 100)
shown DayOfYear m = three m.yearday
shown WeekdayName m = lettered weekday_names m.weekday
