-- The worked examples as one table, the paper's and some more, and what it is for a row to hold: of every answer that a contract allows.
use Rattle.std.specs.Prelude.{◌≡◌, false, List, [], ◌∷◌, ◌++◌, ℕ, ℤ, pos, neg_ℤ, length, drop, Result}
use Prim.Native.String.{String}
use Rattle.paper.specs.Answers.{in_text, in_house, in_farm, in_index, refusal}
use Rattle.paper.specs.Refusals.{no_room, bad_base, too_big, bad_reference, unknown_name, too_deep, allowance_spent, bad_table, bad_expression, not_an_integer, over_length, bad_field, bad_index, code_over_255}
use Rattle.paper.specs.Layings.{Converted, converted_answer}
use Rattle.reader.specs.Reading.{no_limit, read_number, read_place, read_value}
use Rattle.paper.specs.declared.refusals.Refused.{Refused}
use Rattle.reader.specs.declared.Number.{Number}
use Rattle.records.specs.Records.{string_kind, integer_kind}
use Rattle.indexes.specs.Indexes.{no_index, given_index}
use Rattle.indexes.specs.Buildings.{built_answer}
use Rattle.indexes.specs.declared.building.Built.{Built}
use Rattle.lookups.specs.Lookups.{found_number, found_counted, found_place, found_kind, Found}
use Rattle.gs.specs.Translations.{Translation, translated_answer}
use Rattle.indexes.specs.declared.building.NotBuilt.{NotBuilt}
use Rattle.expressions.specs.Answers.{evaluated_number, evaluated_counted, evaluated_place, evaluated_value, Evaluated}
use Rattle.promises.specs.Allowed.{Converts, Dates, Reads, Builds, LooksUp, HandsBack, Translates, Evaluates}
use Rattle.paper.specs.Texts.{bytes}

pub data Row : Type 0 where
  -- a call, a value and a room: the string, its zero byte's offset, the need, the room left
  writes : (call value room : ℕ) (string : String) (offset need free : ℕ) → Row
  -- the same of a call whose string has no zero byte: the offset is behind its last character
  gives : (call value room : ℕ) (string : String) (offset need free : ℕ) → Row
  -- a call, a value and a room that is too small: the need
  lacks : (call value room need : ℕ) → Row
  -- a time, a format and a room: the string, its zero byte's offset, the need, the room left
  dates : (time : List ℕ) (format : String) (room : ℕ) (string : String) (offset need free : ℕ) → Row
  -- the same: the refusal number, its place, and the need
  mistakes : (time : List ℕ) (format : String) (room number place need : ℕ) → Row
  -- a text, without options: the value and the place behind it
  reads : (text : String) (value place : ℕ) → Row
  -- a text, without options: the refusal number and its place
  refuses : (text : String) (number place : ℕ) → Row
  -- a text, the farm's table and the house's, an allowance and a room, no flags: the bytes given, the place of the text's end, and the
  -- room left
  translates : (text : String) (farm house : List ℕ) (allowance room : ℕ) (given : List ℕ) (end free : ℕ) → Row
  -- the same: the refusal number, what its place is counted in, and the place
  stops : (text : String) (farm house : List ℕ) (allowance room number counted place : ℕ) → Row
  -- a text, two tables and an allowance: the value, and the place of the text's end
  evaluates : (text : String) (farm house : List ℕ) (allowance : ℕ) (value : ℤ) (end : ℕ) → Row
  -- the same: the refusal number, what its place is counted in, and the place
  fails : (text : String) (farm house : List ℕ) (allowance number counted place : ℕ) → Row
  -- a name and two tables: what the record's place is counted in, the place, the kind, and the part that is handed back
  finds : (name : String) (farm house : List ℕ) (counted place kind : ℕ) (part : List ℕ) → Row
  -- a table and a room: its index, and the room left
  indexes : (table : List ℕ) (room : ℕ) (index : List ℕ) (free : ℕ) → Row
  -- a table and a room that is too small for its index: the need
  spares : (table : List ℕ) (room need : ℕ) → Row
  -- a text, the house's table and its index, an allowance and a room, an empty farm's table and no flags: the bytes given, the place of the
  -- text's end, and the room left
  through : (text : String) (house index : List ℕ) (allowance room : ℕ) (given : List ℕ) (end free : ℕ) → Row
  -- the same with an index that does not fit, and a name that is looked up through it
  misfits : (text : String) (house index : List ℕ) (allowance room : ℕ) (name : String) → Row
  -- a name, the house's table and its index: the record's place, the kind, and the part that is handed back
  leads : (name : String) (house index : List ℕ) (place kind : ℕ) (part : List ℕ) → Row

abbrev pub Holds : Row → Type 0
Holds (writes call value room string offset need free) =
    (buf after : List ℕ) (r : Converted) → length buf ≡ room → Converts call value buf r after
    → (converted_answer r ≡ record { number = 0; counted = in_text; place = offset; need = need; free = free }) × (after ≡ bytes string ++ (0 ∷ drop need buf))
Holds (gives call value room string offset need free) =
    (buf after : List ℕ) (r : Converted) → length buf ≡ room → Converts call value buf r after
    → (converted_answer r ≡ record { number = 0; counted = in_text; place = offset; need = need; free = free }) × (after ≡ bytes string ++ drop need buf)
Holds (lacks call value room need) =
    (buf after : List ℕ) (r : Converted) → length buf ≡ room → Converts call value buf r after
    → (converted_answer r ≡ record { number = no_room; counted = in_text; place = 0; need = need; free = room }) × (after ≡ buf)
Holds (dates time format room string offset need free) =
    (buf after : List ℕ) (r : Converted) → length buf ≡ room → Dates time (bytes format) buf r after
    → (converted_answer r ≡ record { number = 0; counted = in_text; place = offset; need = need; free = free }) × (after ≡ bytes string ++ (0 ∷ drop need buf))
Holds (mistakes time format room number place need) =
    (buf after : List ℕ) (r : Converted) → length buf ≡ room → Dates time (bytes format) buf r after
    → (converted_answer r ≡ record { number = number; counted = in_text; place = place; need = need; free = room }) × (after ≡ buf)
Holds (reads text value place) =
    (r : Result Number Refused) → Reads (bytes text) false no_limit r → (read_number r ≡ 0) × (read_value r ≡ value) × (read_place r ≡ place)
Holds (refuses text number place) =
    (r : Result Number Refused) → Reads (bytes text) false no_limit r → (read_number r ≡ number) × (read_place r ≡ place)
Holds (translates text farm house allowance room given end free) =
    (out after : List ℕ) (r : Translation) → length out ≡ room → Translates (bytes text) farm house no_index 0 allowance out r after
    → (translated_answer r ≡ record { number = 0; counted = in_text; place = end; need = length given; free = free }) × (after ≡ given ++ drop (length given) out)
Holds (stops text farm house allowance room number counted place) =
    (out after : List ℕ) (r : Translation) → length out ≡ room → Translates (bytes text) farm house no_index 0 allowance out r after
    → (translated_answer r ≡ refusal number counted place room) × (after ≡ out)
Holds (evaluates text farm house allowance value end) =
    (r : Evaluated) → Evaluates (bytes text) farm house allowance r
    → (evaluated_number r ≡ 0) × (evaluated_value r ≡ value) × (evaluated_place r ≡ end)
Holds (fails text farm house allowance number counted place) =
    (r : Evaluated) → Evaluates (bytes text) farm house allowance r
    → (evaluated_number r ≡ number) × (evaluated_counted r ≡ counted) × (evaluated_place r ≡ place)
Holds (finds name farm house counted place kind part) =
    (r : Found) (handed : List ℕ) → LooksUp farm house no_index (bytes name) r → HandsBack farm house no_index (bytes name) handed
    → (found_number r ≡ 0) × (found_counted r ≡ counted) × (found_place r ≡ place) × (found_kind r ≡ kind) × (handed ≡ part)
Holds (indexes table room index free) =
    (out after : List ℕ) (r : Result Built NotBuilt) → length out ≡ room → Builds table out r after
    → (built_answer r ≡ record { number = 0; counted = in_text; place = 0; need = length index; free = free }) × (after ≡ index ++ drop (length index) out)
Holds (spares table room need) =
    (out after : List ℕ) (r : Result Built NotBuilt) → length out ≡ room → Builds table out r after
    → (built_answer r ≡ record { number = no_room; counted = in_text; place = 0; need = need; free = room }) × (after ≡ out)
Holds (through text house index allowance room given end free) =
    (out after : List ℕ) (r : Translation) → length out ≡ room → Translates (bytes text) [] house (given_index index) 0 allowance out r after
    → (translated_answer r ≡ record { number = 0; counted = in_text; place = end; need = length given; free = free }) × (after ≡ given ++ drop (length given) out)
Holds (misfits text house index allowance room name) =
    (out after : List ℕ) (r : Translation) (f : Found) → length out ≡ room → Translates (bytes text) [] house (given_index index) 0 allowance out r after
    → LooksUp [] house (given_index index) (bytes name) f
    → (translated_answer r ≡ refusal bad_index in_index 0 room) × (after ≡ out)
    × (found_number f ≡ bad_index) × (found_counted f ≡ in_index) × (found_place f ≡ 0)
Holds (leads name house index place kind part) =
    (r : Found) (handed : List ℕ) → LooksUp [] house (given_index index) (bytes name) r → HandsBack [] house (given_index index) (bytes name) handed
    → (found_number r ≡ 0) × (found_counted r ≡ in_house) × (found_place r ≡ place) × (found_kind r ≡ kind) × (handed ≡ part)

abbrev pub All : List Row → Type 0
All [] = Unit {0}
All (row ∷ rows) = Holds row × All rows

-- one record: the macro a, whose value is `<a>`
abbrev pub self_naming : List ℕ
self_naming = 86 ∷ 82 ∷ 2 ∷ 1 ∷ 3 ∷ bytes "a<a>"

-- one record: the string a, whose value is `x`
abbrev pub named_x : List ℕ
named_x = 86 ∷ 82 ∷ 0 ∷ 1 ∷ 1 ∷ bytes "ax"

-- one record: the integer a, whose value is 7
abbrev pub numbered_7 : List ℕ
numbered_7 = 86 ∷ 82 ∷ 1 ∷ 1 ∷ 4 ∷ bytes "a" ++ (7 ∷ 0 ∷ 0 ∷ 0 ∷ [])

-- one record: the macro m, whose value is `<a>!`
abbrev pub naming_a : List ℕ
naming_a = 86 ∷ 82 ∷ 2 ∷ 1 ∷ 4 ∷ bytes "m<a>!"

-- one record: the string 256, whose value is `x`
abbrev pub named_256 : List ℕ
named_256 = 86 ∷ 82 ∷ 0 ∷ 3 ∷ 1 ∷ bytes "256x"

-- one record: the string 256x, whose value is `y`
abbrev pub named_256x : List ℕ
named_256x = 86 ∷ 82 ∷ 0 ∷ 4 ∷ 1 ∷ bytes "256xy"

-- two records: the macro m, whose value is `!<n>`, and the macro n, whose value is `<256>`
abbrev pub over_in_a_macro : List ℕ
over_in_a_macro = 86 ∷ 82 ∷ 2 ∷ 1 ∷ 4 ∷ bytes "m!<n>" ++ (86 ∷ 82 ∷ 2 ∷ 1 ∷ 5 ∷ bytes "n<256>")

-- two records: the string A, whose value is `x`, and the string _, whose value is `y`. As a small letter the A comes behind the _
abbrev pub letter_and_sign : List ℕ
letter_and_sign = 86 ∷ 82 ∷ 0 ∷ 1 ∷ 1 ∷ bytes "Ax" ++ (86 ∷ 82 ∷ 0 ∷ 1 ∷ 1 ∷ bytes "_y")

abbrev pub sign_first : List ℕ
sign_first = 7 ∷ 0 ∷ 0 ∷ 0 ∷ []

-- two records: the string ab, whose value is `x`, and the string a, whose value is `y`
abbrev pub with_a_beginning : List ℕ
with_a_beginning = 86 ∷ 82 ∷ 0 ∷ 2 ∷ 1 ∷ bytes "abx" ++ (86 ∷ 82 ∷ 0 ∷ 1 ∷ 1 ∷ bytes "ay")

-- three records, empty strings: c, bA and aB. The first bytes decide, and not the lengths
abbrev pub shortest_last : List ℕ
shortest_last = 86 ∷ 82 ∷ 0 ∷ 1 ∷ 0 ∷ bytes "c" ++ (86 ∷ 82 ∷ 0 ∷ 2 ∷ 0 ∷ bytes "bA" ++ (86 ∷ 82 ∷ 0 ∷ 2 ∷ 0 ∷ bytes "aB"))

-- times of five bytes, by their days: 28 February 1900 in its last hundredth of a second and the next day in its first, the ends of 1999
-- and of 2000, and 29 February 2000 at 12:34:56.78
abbrev pub february_1900 : List ℕ
february_1900 = 255 ∷ 81 ∷ 98 ∷ 30 ∷ 0 ∷ []

abbrev pub march_1900 : List ℕ
march_1900 = 0 ∷ 82 ∷ 98 ∷ 30 ∷ 0 ∷ []

abbrev pub end_of_1999 : List ℕ
end_of_1999 = 0 ∷ 242 ∷ 195 ∷ 120 ∷ 73 ∷ []

abbrev pub end_of_2000 : List ℕ
end_of_2000 = 0 ∷ 230 ∷ 63 ∷ 53 ∷ 74 ∷ []

abbrev pub february_2000 : List ℕ
february_2000 = 14 ∷ 56 ∷ 239 ∷ 151 ∷ 73 ∷ []

abbrev pub first_time : List ℕ
first_time = 0 ∷ 0 ∷ 0 ∷ 0 ∷ 0 ∷ []

abbrev pub last_time : List ℕ
last_time = 255 ∷ 255 ∷ 255 ∷ 255 ∷ 255 ∷ []

-- P1 to P15, P12 with its neighbours, P13 once over each table, some more of the paper's table, and rows for &28, two tables, an index and
-- dates
abbrev pub examples : List Row
examples =
    -- P1
    writes 0xD8 1048576 8 "1048576" 7 8 1
    -- P2
    ∷ lacks 0xD8 1048576 7 8
    -- P3
    ∷ writes 0xE4 1048576 10 "1 048 576" 9 10 1
    -- P4
    ∷ writes 0xD5 1048576 2 "0" 1 2 1
    -- P5
    ∷ writes 0xD9 128 5 "-128" 4 5 1
    -- P6
    ∷ writes 0xE8 2147483648 15 "-2 147 483 648" 14 15 1
    -- P7
    ∷ writes 0xD3 1048576 7 "100000" 6 7 1
    -- P8
    ∷ reads "2_1102" 6 5
    -- P9
    ∷ refuses "37_1" bad_base 0
    -- P10
    ∷ translates "|!|@" [] [] 0 1 (128 ∷ []) 4 0
    -- P11
    ∷ translates "\"a\"\"b\"" [] [] 0 3 (bytes "a\"b") 6 0
    -- P12
    ∷ stops "<321>" [] [] 0 1 code_over_255 in_text 0
    -- a number up to 255 is a byte, and the next one is refused, whatever its base
    ∷ translates "<65>" [] [] 0 1 (bytes "A") 4 0
    ∷ translates "<255>" [] [] 0 1 (255 ∷ []) 5 0
    ∷ stops "<256>" [] [] 0 1 code_over_255 in_text 0
    ∷ translates "<&0FF>" [] [] 0 1 (255 ∷ []) 6 0
    ∷ stops "<36_74>" [] [] 0 1 code_over_255 in_text 0
    -- a variable named 256 is not looked up; 256x is a name
    ∷ stops "<256>" [] named_256 1 1 code_over_255 in_text 0
    ∷ stops "<256x>" [] named_256 1 1 unknown_name in_text 0
    ∷ translates "<256x>" [] named_256x 1 1 (bytes "y") 6 0
    ∷ stops "a<256>" [] [] 0 0 code_over_255 in_text 1
    ∷ stops "\"<256>\"" [] [] 0 1 code_over_255 in_text 1
    -- the greatest number that the reader takes, and one more; and a reference that is bad
    ∷ stops "<4294967295>" [] [] 0 1 code_over_255 in_text 0
    ∷ stops "<4294967296>" [] [] 0 1 too_big in_text 0
    ∷ stops "<256" [] [] 0 1 bad_reference in_text 0
    -- in a macro that a macro names: the place is that of the outermost "<"
    ∷ stops "xy<m>" [] over_in_a_macro 2 9 code_over_255 in_text 2
    -- P13, over the house's table and over the farm's
    ∷ translates "<A>b" [] named_x 1 2 (bytes "xb") 4 0
    ∷ translates "<A>b" named_x [] 1 2 (bytes "xb") 4 0
    -- P14
    ∷ evaluates "2147483647+1" [] [] 0 (neg_ℤ (pos 2147483648)) 12
    -- P15
    ∷ evaluates "-7 MOD 2" [] [] 0 (neg_ℤ (pos 1)) 8
    -- &28 takes the room of its characters, and &DC one byte more
    ∷ gives 0x28 1048576 7 "1048576" 7 7 0
    ∷ lacks 0x28 1048576 6 7
    ∷ writes 0xDC 1048576 8 "1048576" 7 8 1
    ∷ lacks 0xDC 1048576 7 8
    -- the X form, and a byte that stays behind the characters
    ∷ gives 0x20028 4294967289 3 "-7" 2 2 1
    -- an empty text and no room
    ∷ translates "" [] [] 0 0 [] 0 0
    -- a farm's string hides the house's integer, and the other way round; one look-up is enough
    ∷ translates "<a>" named_x numbered_7 1 1 (bytes "x") 3 0
    ∷ translates "<a>" numbered_7 named_x 1 1 (bytes "7") 3 0
    ∷ evaluates "a+1" numbered_7 named_x 1 (pos 8) 3
    ∷ fails "a+1" named_x numbered_7 1 not_an_integer in_text 0
    ∷ finds "A" named_x numbered_7 in_farm 0 string_kind (bytes "x")
    ∷ finds "A" [] numbered_7 in_house 0 integer_kind (7 ∷ 0 ∷ 0 ∷ 0 ∷ [])
    -- an index: the sign before the letter, a beginning before what goes on, the first byte before the length, an empty one, and a room that is
    -- one too small
    ∷ indexes letter_and_sign 4 sign_first 0
    ∷ indexes with_a_beginning 6 (8 ∷ 0 ∷ 0 ∷ 0 ∷ []) 2
    ∷ indexes shortest_last 6 (13 ∷ 0 ∷ 6 ∷ 0 ∷ 0 ∷ 0 ∷ []) 0
    ∷ indexes [] 0 [] 0
    ∷ spares letter_and_sign 3 4
    -- through it, both names; with its entries exchanged, or longer, it is refused, before a name that is unknown and where none is looked up
    ∷ through "<_><a>" letter_and_sign sign_first 2 2 (bytes "yx") 6 0
    ∷ leads "_" letter_and_sign sign_first 7 string_kind (bytes "y")
    ∷ leads "a" letter_and_sign sign_first 0 string_kind (bytes "x")
    ∷ misfits "<b>" letter_and_sign (0 ∷ 0 ∷ 7 ∷ 0 ∷ []) 1 1 "b"
    ∷ misfits "" letter_and_sign (sign_first ++ (0 ∷ 0 ∷ [])) 0 0 "_"
    -- a house's macro uses a farm's name, and a farm's macro a house's: two look-ups
    ∷ translates "<m>" named_x naming_a 2 2 (bytes "x!") 3 0
    ∷ translates "<m>" naming_a named_x 2 2 (bytes "x!") 3 0
    ∷ stops "<m>" naming_a named_x 1 2 allowance_spent in_text 0
    -- tables that are no records: the farm's is told first
    ∷ stops "x" (bytes "V") (bytes "V") 0 1 bad_table in_farm 0
    ∷ stops "x" named_x (named_x ++ bytes "V") 0 1 bad_table in_house 7
    -- a macro that names itself: `<a>` for a, with 3 look-ups and with 1,024
    ∷ stops "<a>" [] self_naming 3 1 allowance_spent in_text 0
    ∷ stops "<a>" [] self_naming 1024 1 too_deep in_text 0
    -- the same behind two bytes: the place is that of the outermost "<"
    ∷ stops "xy<a>" [] self_naming 3 9 allowance_spent in_text 2
    -- a zero divisor before a bracket that is missing
    ∷ fails "1/0+(" [] [] 0 bad_expression in_text 5
    -- the first time of the diaries and the last
    ∷ dates first_time "%24:%MI:%SE.%CS %W3 %DY %M3 %CE%YR" 28 "00:00:00.00 Mon 01 Jan 1900" 27 28 1
    ∷ dates last_time "%24:%MI:%SE.%CS %W3 %DY %M3 %CE%YR" 40 "06:57:57.75 Sat 03 Jun 2248" 27 28 13
    -- 2000 has a 29 February, and 1900 has none
    ∷ dates february_2000 "%CE%YR-%MN-%DY %24:%MI:%SE.%CS" 23 "2000-02-29 12:34:56.78" 22 23 1
    ∷ dates february_1900 "%24:%MI:%SE.%CS %W3 %DY %M3 %CE%YR" 28 "23:59:59.99 Wed 28 Feb 1900" 27 28 1
    ∷ dates march_1900 "%24:%MI:%SE.%CS %W3 %DY %M3 %CE%YR" 28 "00:00:00.00 Thu 01 Mar 1900" 27 28 1
    -- so that a year's last day is its 366th or its 365th
    ∷ dates end_of_2000 "%DN" 4 "366" 3 4 1
    ∷ dates end_of_1999 "%DN" 4 "365" 3 4 1
    -- pairs are decided from the left
    ∷ dates first_time "%%CS" 4 "%CS" 3 4 1
    ∷ mistakes first_time "%%%" 0 bad_field 2 0
    -- names are in capitals, and whole
    ∷ mistakes first_time "%cs" 9 bad_field 0 0
    ∷ mistakes first_time "%CS%C" 9 bad_field 3 0
    -- a room that is one too small, and an empty format, whose zero byte alone takes room
    ∷ mistakes first_time "%CS" 2 no_room 0 3
    ∷ dates first_time "" 1 "" 0 1 1
    -- a time of four bytes is told before its format is read
    ∷ mistakes (0 ∷ 0 ∷ 0 ∷ 0 ∷ []) "%cs" 9 over_length 0 0
    ∷ []
