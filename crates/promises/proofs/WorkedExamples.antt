-- Every worked example holds of every answer that the contracts allow.
use mathlib.Core.Path.{◌≡◌, refl, ap, ap₂, sym, ◌∙◌}
use mathlib.Core.Bool.{true, false}
use mathlib.Core.List.{List, [], ◌∷◌, ◌++◌}
use Prim.Native.Nat.{ℕ, zero, suc, ◌-◌, ◌≤◌, ◌<◌}
use Prim.Native.String.{String}
use native.Mathlib.Omega.{arith}
use lib.Dec.{lit≤, lit<}
use lib.IntN.{pos, neg_ℤ}
use lib.ListN.{length, take, drop}
use Rattle.paper.specs.Answers.{Answer, in_text, in_house, in_farm}
use Rattle.paper.specs.Bytes.{name_byte, word_byte}
use Rattle.paper.specs.Layings.{terminator, room_for, laying_of, Converted, converted_by, converted_answer}
use Rattle.paper.specs.Refusals.{no_room, bad_base, too_deep, allowance_spent, bad_table, bad_expression, not_an_integer, over_length, bad_field}
use Rattle.paper.specs.Texts.{bytes}
use Rattle.paper.specs.Traces as Traces
use Rattle.forms.specs.Digits.{digits, enough}
use Rattle.forms.specs.Strings.{Form, string}
use Rattle.forms.specs.Calls.{hex, decimal, bare, known, ranged, described}
use Rattle.forms.specs.declared.forms.Width.TheVariants.{Byte, ThreeBytes, Word}
use Rattle.numbers.specs.Conversions.{answer_of}
use Rattle.calendar.specs.Counting.{total}
use Rattle.calendar.specs.Dates.{last_begun, date_of}
use Rattle.calendar.specs.Moments.{moment_at}
use Rattle.dates.specs.Fields.{date_field, field_named, shown}
use Rattle.dates.specs.Formats.{piece_at, layout_from, good}
use Rattle.dates.specs.Conversions.{dated, date_answer}
use Rattle.dates.proofs.Outcomes.{converted_kept}
use Rattle.reader.specs.Reading.{digit, judged as judged_reading, in_base, numbered, reading, read_number, read_place, read_value}
use Rattle.records.specs.Records.{string_kind, integer_kind, headed, sized, fitting, name_at, value_at, small, same_name, comes_before, entry_at}
use Rattle.variables.specs.Tables.{entries, sought, sound, scanned, checked}
use Rattle.variables.specs.Judgements.{judged}
use Rattle.indexes.specs.Indexes.{Given, no_index, given_index, inserted, inserted_all, index_of}
use Rattle.indexes.specs.Buildings.{built, laid_by, index_after, built_answer}
use Rattle.std.specs.Prelude.{Result}
use Rattle.indexes.specs.declared.building.Built.{Built}
use Rattle.indexes.specs.declared.building.NotBuilt.{NotBuilt}
use Rattle.lookups.specs.Lookups.{looked_up, found_number, found_counted, found_place, found_kind}
use Rattle.variables.specs.Names.{meant}
use Rattle.symbols.specs.Symbols.{symbol_at, active, barred, code, coded, punctuation, topped_code, topped_symbol, referred, closed, quoted_other, first_at, mode_of}
use Rattle.gs.specs.Readings.{name_gives, content_gives, symbol_gives, symbols_from, whole_text, expands}
use Rattle.gs.specs.Translations.{Translation, reading_of, left_by, translated, out_after, translated_answer}
use Rattle.tokens.specs.Tokens.{word_token, fault_of, single, from_less, from_greater, symbol_at as sign_at, starting_at}
use Rattle.expressions.specs.Trees.{operators_from, operand_at, whole_tree}
use Rattle.expressions.specs.Evaluations.{divided}
use Rattle.expressions.specs.Answers.{Evaluated, evaluated, evaluated_number, evaluated_counted, evaluated_place, evaluated_value}
use Rattle.arithmetic.specs.Values.{signed, sum, difference, product, quotient, remainder}
use Rattle.promises.specs.Allowed.{Converts, Dates, Builds, Translates, Evaluates}
use Rattle.promises.specs.Conversions as Numbers
use Rattle.promises.specs.Dates.{Fit, fields_in, needed}
use Rattle.promises.specs.Examples.{Row, writes, gives, lacks, dates, mistakes, reads, refuses, translates, stops, evaluates, fails, finds, indexes, spares, through, misfits, leads, self_naming, named_x, numbered_7, naming_a, named_256, named_256x, over_in_a_macro, letter_and_sign, sign_first, with_a_beginning, shortest_last, first_time, last_time, february_1900, march_1900, end_of_1999, end_of_2000, february_2000, Holds, All, examples}
use Rattle.promises.proofs.ConversionsKept as Conversions
use Rattle.promises.proofs.DatesKept as DatesOf

-- a row of a call that has a form: its answer is the definition's at the room, and the promises say what it leaves
module _ (call value room : ℕ) (form : Form) (is : described call ≡ known form) (buf after : List ℕ) (r : Converted) (answer : Answer)
    (long : length buf ≡ room) (c : Converts call value buf r after) where
  told : converted_answer (converted_by (answer_of call value room)) ≡ answer → converted_answer r ≡ answer
  told computed = ap converted_answer (c.answer ∙ ap (λ n. converted_by (answer_of call value n)) long) ∙ computed

  writes_row : Numbers.needed form value ≤ room → converted_answer (converted_by (answer_of call value room)) ≡ answer
      → (converted_answer r ≡ answer) × (after ≡ string form value ++ (terminator form.terminated ++ drop (Numbers.needed form value) buf))
  writes_row enough computed =
      let accepted = (Conversions.refusals call value buf after r c).accepted.1 (form, is, omega arith) in
      (told computed, Conversions.bytes call value form buf after r is c accepted)

  lacks_row : room < Numbers.needed form value → converted_answer (converted_by (answer_of call value room)) ≡ answer → (converted_answer r ≡ answer) × (after ≡ buf)
  lacks_row less computed =
      let refused = Conversions.refusals call value buf after r c in
      let number = refused.room.1 (form, is, omega arith) in
      (told computed, refused.kept (λ e. omega arith))

-- a row of a time and a format: its string is computed once, and the promises say what is answered and what is left
module _ (time format : List ℕ) (room : ℕ) (buf after : List ℕ) (r : Converted) (long : length buf ≡ room) (c : Dates time format buf r after) where
  abbrev accepted_with : List ℕ → ℕ → Answer
  accepted_with text room = record { number = 0; counted = in_text; place = length text; need = room_for text true; free = room - length text }

  dates_row : (text : List ℕ) → dated time format ≡ text → Fit time format → fields_in format ≡ good → room_for text true ≤ room
      → (converted_answer r ≡ accepted_with text room) × (after ≡ text ++ (0 ∷ drop (room_for text true) buf))
  dates_row text e fit fields enough =
      let needs : needed time format ≤ length buf = omega (arith, ap length e) in
      let accepted = (DatesOf.refusals time format buf after r c).accepted.1 (fit, fields, needs) in (
        (DatesOf.exact time format buf after r c).accepted fit fields needs ∙ ap₂ accepted_with e long,
        DatesOf.bytes time format buf after r c accepted ∙ ap (λ text. text ++ (0 ∷ drop (room_for text true) buf)) e,
      )

  mistakes_row : (answer : Answer) → date_answer time format room ≡ answer → (answer.number ≡ 0 → ⊥) → (converted_answer r ≡ answer) × (after ≡ buf)
  mistakes_row answer computed refused =
      let is : converted_answer r ≡ answer =
      ap converted_answer c.answer ∙ converted_kept time format (length buf) ∙ ap (date_answer time format) long ∙ computed in
      (is, (DatesOf.refusals time format buf after r c).kept (λ e. refused (ap (λ a. a.number) (sym is) ∙ e)))

p1 : Holds (writes 0xD8 1048576 8 "1048576" 7 8 1)
unfolding answer_of described ranged laying_of string digits enough
p1 buf after r long c = writes_row 0xD8 1048576 8 (decimal false false true Word) refl buf after r _ long c (lit≤ tt) refl

p2 : Holds (lacks 0xD8 1048576 7 8)
unfolding answer_of described ranged laying_of string digits enough
p2 buf after r long c = lacks_row 0xD8 1048576 7 (decimal false false true Word) refl buf after r _ long c (lit< tt) refl

p3 : Holds (writes 0xE4 1048576 10 "1 048 576" 9 10 1)
unfolding answer_of described ranged laying_of string digits enough
p3 buf after r long c = writes_row 0xE4 1048576 10 (decimal false true true Word) refl buf after r _ long c (lit≤ tt) refl

p4 : Holds (writes 0xD5 1048576 2 "0" 1 2 1)
unfolding answer_of described ranged laying_of string digits enough
p4 buf after r long c = writes_row 0xD5 1048576 2 (decimal false false true Byte) refl buf after r _ long c (lit≤ tt) refl

p5 : Holds (writes 0xD9 128 5 "-128" 4 5 1)
unfolding answer_of described ranged laying_of string digits enough
p5 buf after r long c = writes_row 0xD9 128 5 (decimal true false true Byte) refl buf after r _ long c (lit≤ tt) refl

p6 : Holds (writes 0xE8 2147483648 15 "-2 147 483 648" 14 15 1)
unfolding answer_of described ranged laying_of string digits enough
p6 buf after r long c = writes_row 0xE8 2147483648 15 (decimal true true true Word) refl buf after r _ long c (lit≤ tt) refl

p7 : Holds (writes 0xD3 1048576 7 "100000" 6 7 1)
unfolding answer_of described ranged laying_of string digits enough
p7 buf after r long c = writes_row 0xD3 1048576 7 (hex ThreeBytes) refl buf after r _ long c (lit≤ tt) refl

without_a_zero_byte : Holds (gives 0x28 1048576 7 "1048576" 7 7 0)
unfolding answer_of described ranged laying_of string digits enough
without_a_zero_byte buf after r long c = writes_row 0x28 1048576 7 bare refl buf after r _ long c (lit≤ tt) refl

lacks_a_character : Holds (lacks 0x28 1048576 6 7)
unfolding answer_of described ranged laying_of string digits enough
lacks_a_character buf after r long c = lacks_row 0x28 1048576 6 bare refl buf after r _ long c (lit< tt) refl

with_a_zero_byte : Holds (writes 0xDC 1048576 8 "1048576" 7 8 1)
unfolding answer_of described ranged laying_of string digits enough
with_a_zero_byte buf after r long c = writes_row 0xDC 1048576 8 (decimal true false true Word) refl buf after r _ long c (lit≤ tt) refl

lacks_its_zero_byte : Holds (lacks 0xDC 1048576 7 8)
unfolding answer_of described ranged laying_of string digits enough
lacks_its_zero_byte buf after r long c = lacks_row 0xDC 1048576 7 (decimal true false true Word) refl buf after r _ long c (lit< tt) refl

a_byte_stays : Holds (gives 0x20028 4294967289 3 "-7" 2 2 1)
unfolding answer_of described ranged laying_of string digits enough
a_byte_stays buf after r long c = writes_row 0x20028 4294967289 3 bare refl buf after r _ long c (lit≤ tt) refl

p8 : Holds (reads "2_1102" 6 5)
unfolding reading numbered in_base judged_reading digit
p8 r c = (ap read_number c.answer, ap read_value c.answer, ap read_place c.answer)

p9 : Holds (refuses "37_1" bad_base 0)
unfolding reading numbered in_base judged_reading digit
p9 r c = (ap read_number c.answer, ap read_place c.answer)

-- a row of a text over two tables, with an index or without: its answer and what it leaves are the definition's at the room
given_row :
    (text : String) (farm house : List ℕ) (given : Given) (allowance : ℕ) {room : ℕ} (out after : List ℕ) (r : Translation) → length out ≡ room
    → Translates (bytes text) farm house given 0 allowance out r after
    → (translated_answer r ≡ translated_answer (translated (bytes text) farm house given 0 allowance room))
    × (after ≡ left_by (translated (bytes text) farm house given 0 allowance room) (Traces.bytes (reading_of (bytes text) farm house 0)) out)
unfolding out_after
given_row text farm house given allowance out after r long c = (
  ap translated_answer (c.answer ∙ ap (translated (bytes text) farm house given 0 allowance) long),
  c.buffer ∙ ap (λ n. left_by (translated (bytes text) farm house given 0 allowance n) (Traces.bytes (reading_of (bytes text) farm house 0)) out) long,
)

-- without one: its answer and what it leaves are the definition's at the room
translated_row :
    (text : String) (farm house : List ℕ) (allowance : ℕ) {room : ℕ} (out after : List ℕ) (r : Translation) → length out ≡ room
    → Translates (bytes text) farm house no_index 0 allowance out r after
    → (translated_answer r ≡ translated_answer (translated (bytes text) farm house no_index 0 allowance room))
    × (after ≡ left_by (translated (bytes text) farm house no_index 0 allowance room) (Traces.bytes (reading_of (bytes text) farm house 0)) out)
translated_row text farm house allowance out after r long c = given_row text farm house no_index allowance out after r long c

evaluated_row :
    (text : String) (farm house : List ℕ) (allowance : ℕ) (r : Evaluated) → Evaluates (bytes text) farm house allowance r
    → let e = evaluated (bytes text) farm house allowance in
    (evaluated_number r ≡ evaluated_number e) × (evaluated_counted r ≡ evaluated_counted e) × (evaluated_place r ≡ evaluated_place e)
    × (evaluated_value r ≡ evaluated_value e)
evaluated_row text farm house allowance r c =
    (ap evaluated_number c.answer, ap evaluated_counted c.answer, ap evaluated_place c.answer, ap evaluated_value c.answer)

p10 : Holds (translates "|!|@" [] [] 0 1 (128 ∷ []) 4 0)
unfolding translated out_after judged scanned sound headed sized fitting name_at value_at name_byte small same_name entry_at entries sought meant name_gives content_gives symbol_gives symbols_from whole_text expands symbol_at active barred code coded punctuation topped_code topped_symbol referred closed quoted_other first_at mode_of reading numbered in_base judged_reading digit string digits enough
p10 out after r long c = translated_row "|!|@" [] [] 0 out after r long c

p11 : Holds (translates "\"a\"\"b\"" [] [] 0 3 (bytes "a\"b") 6 0)
unfolding translated out_after judged scanned sound headed sized fitting name_at value_at name_byte small same_name entry_at entries sought meant name_gives content_gives symbol_gives symbols_from whole_text expands symbol_at active barred code coded punctuation topped_code topped_symbol referred closed quoted_other first_at mode_of reading numbered in_base judged_reading digit string digits enough
p11 out after r long c = translated_row "\"a\"\"b\"" [] [] 0 out after r long c

-- P12 and its neighbours, the references to a number
number_references : All (take 15 (drop 11 examples))
unfolding translated out_after judged scanned sound headed sized fitting name_at value_at name_byte small same_name entry_at entries sought meant name_gives content_gives symbol_gives symbols_from whole_text expands symbol_at active barred code coded punctuation topped_code topped_symbol referred closed quoted_other first_at mode_of reading numbered in_base judged_reading digit string digits enough
number_references = (translated_row "<321>" [] [] 0, (translated_row "<65>" [] [] 0, (translated_row "<255>" [] [] 0, (translated_row "<256>" [] [] 0, (translated_row "<&0FF>" [] [] 0, (translated_row "<36_74>" [] [] 0, (translated_row "<256>" [] named_256 1, (translated_row "<256x>" [] named_256 1, (translated_row "<256x>" [] named_256x 1, (translated_row "a<256>" [] [] 0, (translated_row "\"<256>\"" [] [] 0, (translated_row "<4294967295>" [] [] 0, (translated_row "<4294967296>" [] [] 0, (translated_row "<256" [] [] 0, (translated_row "xy<m>" [] over_in_a_macro 2, tt)))))))))))))))

p13 : Holds (translates "<A>b" [] named_x 1 2 (bytes "xb") 4 0)
unfolding translated out_after judged scanned sound headed sized fitting name_at value_at name_byte small same_name entry_at entries sought meant name_gives content_gives symbol_gives symbols_from whole_text expands symbol_at active barred code coded punctuation topped_code topped_symbol referred closed quoted_other first_at mode_of reading numbered in_base judged_reading digit string digits enough
p13 out after r long c = translated_row "<A>b" [] named_x 1 out after r long c

p13_farm : Holds (translates "<A>b" named_x [] 1 2 (bytes "xb") 4 0)
unfolding translated out_after judged scanned sound headed sized fitting name_at value_at name_byte small same_name entry_at entries sought meant name_gives content_gives symbol_gives symbols_from whole_text expands symbol_at active barred code coded punctuation topped_code topped_symbol referred closed quoted_other first_at mode_of reading numbered in_base judged_reading digit string digits enough
p13_farm out after r long c = translated_row "<A>b" named_x [] 1 out after r long c

p14 : Holds (evaluates "2147483647+1" [] [] 0 (neg_ℤ (pos 2147483648)) 12)
unfolding evaluated judged scanned sound headed sized fitting name_at value_at name_byte small same_name entry_at entries sought meant starting_at word_token word_byte sign_at single from_less from_greater fault_of operators_from operand_at whole_tree divided signed sum difference product quotient remainder reading numbered in_base judged_reading digit
p14 r c = let e = evaluated_row "2147483647+1" [] [] 0 r c in (e.0, e.3, e.2)

p15 : Holds (evaluates "-7 MOD 2" [] [] 0 (neg_ℤ (pos 1)) 8)
unfolding evaluated judged scanned sound headed sized fitting name_at value_at name_byte small same_name entry_at entries sought meant starting_at word_token word_byte sign_at single from_less from_greater fault_of operators_from operand_at whole_tree divided signed sum difference product quotient remainder reading numbered in_base judged_reading digit
p15 r c = let e = evaluated_row "-7 MOD 2" [] [] 0 r c in (e.0, e.3, e.2)

empty_text : Holds (translates "" [] [] 0 0 [] 0 0)
unfolding translated out_after judged scanned sound headed sized fitting name_at value_at name_byte small same_name entry_at entries sought meant name_gives content_gives symbol_gives symbols_from whole_text expands symbol_at active barred code coded punctuation topped_code topped_symbol referred closed quoted_other first_at mode_of reading numbered in_base judged_reading digit string digits enough
empty_text out after r long c = translated_row "" [] [] 0 out after r long c

string_hides : Holds (translates "<a>" named_x numbered_7 1 1 (bytes "x") 3 0)
unfolding translated out_after judged scanned sound headed sized fitting name_at value_at name_byte small same_name entry_at entries sought meant name_gives content_gives symbol_gives symbols_from whole_text expands symbol_at active barred code coded punctuation topped_code topped_symbol referred closed quoted_other first_at mode_of reading numbered in_base judged_reading digit string digits enough
string_hides out after r long c = translated_row "<a>" named_x numbered_7 1 out after r long c

integer_hides : Holds (translates "<a>" numbered_7 named_x 1 1 (bytes "7") 3 0)
unfolding translated out_after judged scanned sound headed sized fitting name_at value_at name_byte small same_name entry_at entries sought meant name_gives content_gives symbol_gives symbols_from whole_text expands symbol_at active barred code coded punctuation topped_code topped_symbol referred closed quoted_other first_at mode_of reading numbered in_base judged_reading digit string digits enough
integer_hides out after r long c = translated_row "<a>" numbered_7 named_x 1 out after r long c

integer_counts : Holds (evaluates "a+1" numbered_7 named_x 1 (pos 8) 3)
unfolding evaluated judged scanned sound headed sized fitting name_at value_at name_byte small same_name entry_at entries sought meant starting_at word_token word_byte sign_at single from_less from_greater fault_of operators_from operand_at whole_tree divided signed sum difference product quotient remainder reading numbered in_base judged_reading digit
integer_counts r c = let e = evaluated_row "a+1" numbered_7 named_x 1 r c in (e.0, e.3, e.2)

string_counts_not : Holds (fails "a+1" named_x numbered_7 1 not_an_integer in_text 0)
unfolding evaluated judged scanned sound headed sized fitting name_at value_at name_byte small same_name entry_at entries sought meant starting_at word_token word_byte sign_at single from_less from_greater fault_of operators_from operand_at whole_tree divided signed sum difference product quotient remainder reading numbered in_base judged_reading digit
string_counts_not r c = let e = evaluated_row "a+1" named_x numbered_7 1 r c in (e.0, e.1, e.2)

found_in_the_farm : Holds (finds "A" named_x numbered_7 in_farm 0 string_kind (bytes "x"))
unfolding looked_up judged scanned sound headed sized fitting name_at value_at name_byte small same_name entry_at entries sought
found_in_the_farm r handed c p = (
  ap found_number c.answer,
  ap found_counted c.answer,
  ap found_place c.answer,
  ap found_kind c.answer,
  p.answer,
)

found_in_the_house : Holds (finds "A" [] numbered_7 in_house 0 integer_kind (7 ∷ 0 ∷ 0 ∷ 0 ∷ []))
unfolding looked_up judged scanned sound headed sized fitting name_at value_at name_byte small same_name entry_at entries sought
found_in_the_house r handed c p = (
  ap found_number c.answer,
  ap found_counted c.answer,
  ap found_place c.answer,
  ap found_kind c.answer,
  p.answer,
)

-- a row of a table and a room: the index's answer and what it leaves are the definition's at the room
built_row :
    (table : List ℕ) {room : ℕ} (out after : List ℕ) (r : Result Built NotBuilt) → length out ≡ room → Builds table out r after
    → (built_answer r ≡ built_answer (built table room)) × (after ≡ laid_by (built table room) (index_of table) out)
unfolding index_after
built_row table out after r long c = (
  ap built_answer (c.answer ∙ ap (built table) long),
  c.buffer ∙ ap (λ n. laid_by (built table n) (index_of table) out) long,
)

sign_before_letter : Holds (indexes letter_and_sign 4 sign_first 0)
unfolding built index_after checked scanned sound headed sized fitting name_at value_at name_byte small same_name entry_at entries sought inserted inserted_all comes_before
sign_before_letter out after r long c = built_row letter_and_sign out after r long c

beginning_first : Holds (indexes with_a_beginning 6 (8 ∷ 0 ∷ 0 ∷ 0 ∷ []) 2)
unfolding built index_after checked scanned sound headed sized fitting name_at value_at name_byte small same_name entry_at entries sought inserted inserted_all comes_before
beginning_first out after r long c = built_row with_a_beginning out after r long c

first_byte_first : Holds (indexes shortest_last 6 (13 ∷ 0 ∷ 6 ∷ 0 ∷ 0 ∷ 0 ∷ []) 0)
unfolding built index_after checked scanned sound headed sized fitting name_at value_at name_byte small same_name entry_at entries sought inserted inserted_all comes_before
first_byte_first out after r long c = built_row shortest_last out after r long c

no_entry : Holds (indexes [] 0 [] 0)
unfolding built index_after checked scanned sound headed sized fitting name_at value_at name_byte small same_name entry_at entries sought inserted inserted_all comes_before
no_entry out after r long c = built_row [] out after r long c

a_byte_short : Holds (spares letter_and_sign 3 4)
unfolding built index_after checked scanned sound headed sized fitting name_at value_at name_byte small same_name entry_at entries sought inserted inserted_all comes_before
a_byte_short out after r long c = built_row letter_and_sign out after r long c

both_through : Holds (through "<_><a>" letter_and_sign sign_first 2 2 (bytes "yx") 6 0)
unfolding translated out_after judged scanned sound headed sized fitting name_at value_at name_byte small same_name entry_at entries sought meant name_gives content_gives symbol_gives symbols_from whole_text expands symbol_at active barred code coded punctuation topped_code topped_symbol referred closed quoted_other first_at mode_of reading numbered in_base judged_reading digit string digits enough inserted inserted_all comes_before
both_through out after r long c = given_row "<_><a>" [] letter_and_sign (given_index sign_first) 2 out after r long c

sign_found : Holds (leads "_" letter_and_sign sign_first 7 string_kind (bytes "y"))
unfolding looked_up judged scanned sound headed sized fitting name_at value_at name_byte small same_name entry_at entries sought inserted inserted_all comes_before
sign_found r handed c p = (
  ap found_number c.answer,
  ap found_counted c.answer,
  ap found_place c.answer,
  ap found_kind c.answer,
  p.answer,
)

letter_found : Holds (leads "a" letter_and_sign sign_first 0 string_kind (bytes "x"))
unfolding looked_up judged scanned sound headed sized fitting name_at value_at name_byte small same_name entry_at entries sought inserted inserted_all comes_before
letter_found r handed c p = (
  ap found_number c.answer,
  ap found_counted c.answer,
  ap found_place c.answer,
  ap found_kind c.answer,
  p.answer,
)

entries_exchanged : Holds (misfits "<b>" letter_and_sign (0 ∷ 0 ∷ 7 ∷ 0 ∷ []) 1 1 "b")
unfolding translated out_after judged scanned sound headed sized fitting name_at value_at name_byte small same_name entry_at entries sought meant name_gives content_gives symbol_gives symbols_from whole_text expands symbol_at active barred code coded punctuation topped_code topped_symbol referred closed quoted_other first_at mode_of reading numbered in_base judged_reading digit string digits enough looked_up inserted inserted_all comes_before
entries_exchanged out after r f long c l =
    let t = given_row "<b>" [] letter_and_sign (given_index (0 ∷ 0 ∷ 7 ∷ 0 ∷ [])) 1 out after r long c in
    (t.0, t.1, ap found_number l.answer, ap found_counted l.answer, ap found_place l.answer)

longer_index : Holds (misfits "" letter_and_sign (sign_first ++ (0 ∷ 0 ∷ [])) 0 0 "_")
unfolding translated out_after judged scanned sound headed sized fitting name_at value_at name_byte small same_name entry_at entries sought meant name_gives content_gives symbol_gives symbols_from whole_text expands symbol_at active barred code coded punctuation topped_code topped_symbol referred closed quoted_other first_at mode_of reading numbered in_base judged_reading digit string digits enough looked_up inserted inserted_all comes_before
longer_index out after r f long c l =
    let t = given_row "" [] letter_and_sign (given_index (sign_first ++ (0 ∷ 0 ∷ []))) 0 out after r long c in
    (t.0, t.1, ap found_number l.answer, ap found_counted l.answer, ap found_place l.answer)

macro_of_the_house : Holds (translates "<m>" named_x naming_a 2 2 (bytes "x!") 3 0)
unfolding translated out_after judged scanned sound headed sized fitting name_at value_at name_byte small same_name entry_at entries sought meant name_gives content_gives symbol_gives symbols_from whole_text expands symbol_at active barred code coded punctuation topped_code topped_symbol referred closed quoted_other first_at mode_of reading numbered in_base judged_reading digit string digits enough
macro_of_the_house out after r long c = translated_row "<m>" named_x naming_a 2 out after r long c

macro_of_the_farm : Holds (translates "<m>" naming_a named_x 2 2 (bytes "x!") 3 0)
unfolding translated out_after judged scanned sound headed sized fitting name_at value_at name_byte small same_name entry_at entries sought meant name_gives content_gives symbol_gives symbols_from whole_text expands symbol_at active barred code coded punctuation topped_code topped_symbol referred closed quoted_other first_at mode_of reading numbered in_base judged_reading digit string digits enough
macro_of_the_farm out after r long c = translated_row "<m>" naming_a named_x 2 out after r long c

macro_spends_two : Holds (stops "<m>" naming_a named_x 1 2 allowance_spent in_text 0)
unfolding translated out_after judged scanned sound headed sized fitting name_at value_at name_byte small same_name entry_at entries sought meant name_gives content_gives symbol_gives symbols_from whole_text expands symbol_at active barred code coded punctuation topped_code topped_symbol referred closed quoted_other first_at mode_of reading numbered in_base judged_reading digit string digits enough
macro_spends_two out after r long c = translated_row "<m>" naming_a named_x 1 out after r long c

farm_told_first : Holds (stops "x" (bytes "V") (bytes "V") 0 1 bad_table in_farm 0)
unfolding translated out_after judged scanned sound headed sized fitting name_at value_at name_byte small same_name entry_at entries sought meant name_gives content_gives symbol_gives symbols_from whole_text expands symbol_at active barred code coded punctuation topped_code topped_symbol referred closed quoted_other first_at mode_of reading numbered in_base judged_reading digit string digits enough
farm_told_first out after r long c = translated_row "x" (bytes "V") (bytes "V") 0 out after r long c

house_told : Holds (stops "x" named_x (named_x ++ bytes "V") 0 1 bad_table in_house 7)
unfolding translated out_after judged scanned sound headed sized fitting name_at value_at name_byte small same_name entry_at entries sought meant name_gives content_gives symbol_gives symbols_from whole_text expands symbol_at active barred code coded punctuation topped_code topped_symbol referred closed quoted_other first_at mode_of reading numbered in_base judged_reading digit string digits enough
house_told out after r long c = translated_row "x" named_x (named_x ++ bytes "V") 0 out after r long c

names_itself_thrice : Holds (stops "<a>" [] self_naming 3 1 allowance_spent in_text 0)
unfolding translated out_after judged scanned sound headed sized fitting name_at value_at name_byte small same_name entry_at entries sought meant name_gives content_gives symbol_gives symbols_from whole_text expands symbol_at active barred code coded punctuation topped_code topped_symbol referred closed quoted_other first_at mode_of reading numbered in_base judged_reading digit string digits enough
names_itself_thrice out after r long c = translated_row "<a>" [] self_naming 3 out after r long c

names_itself : Holds (stops "<a>" [] self_naming 1024 1 too_deep in_text 0)
unfolding translated out_after judged scanned sound headed sized fitting name_at value_at name_byte small same_name entry_at entries sought meant name_gives content_gives symbol_gives symbols_from whole_text expands symbol_at active barred code coded punctuation topped_code topped_symbol referred closed quoted_other first_at mode_of reading numbered in_base judged_reading digit string digits enough
names_itself out after r long c = translated_row "<a>" [] self_naming 1024 out after r long c

names_itself_behind : Holds (stops "xy<a>" [] self_naming 3 9 allowance_spent in_text 2)
unfolding translated out_after judged scanned sound headed sized fitting name_at value_at name_byte small same_name entry_at entries sought meant name_gives content_gives symbol_gives symbols_from whole_text expands symbol_at active barred code coded punctuation topped_code topped_symbol referred closed quoted_other first_at mode_of reading numbered in_base judged_reading digit string digits enough
names_itself_behind out after r long c = translated_row "xy<a>" [] self_naming 3 out after r long c

zero_divisor_unread : Holds (fails "1/0+(" [] [] 0 bad_expression in_text 5)
unfolding evaluated judged scanned sound headed sized fitting name_at value_at name_byte small same_name entry_at entries sought meant starting_at word_token word_byte sign_at single from_less from_greater fault_of operators_from operand_at whole_tree divided signed sum difference product quotient remainder reading numbered in_base judged_reading digit
zero_divisor_unread r c = let e = evaluated_row "1/0+(" [] [] 0 r c in (e.0, e.1, e.2)

first_date : Holds (dates first_time "%24:%MI:%SE.%CS %W3 %DY %M3 %CE%YR" 28 "00:00:00.00 Mon 01 Jan 1900" 27 28 1)
unfolding date_answer laying_of piece_at layout_from field_named date_field shown digits moment_at date_of last_begun total
first_date buf after r long c = dates_row first_time (bytes "%24:%MI:%SE.%CS %W3 %DY %M3 %CE%YR") 28 buf after r long c (bytes "00:00:00.00 Mon 01 Jan 1900") refl (refl, lit≤ tt) refl (lit≤ tt)

last_date : Holds (dates last_time "%24:%MI:%SE.%CS %W3 %DY %M3 %CE%YR" 40 "06:57:57.75 Sat 03 Jun 2248" 27 28 13)
unfolding date_answer laying_of piece_at layout_from field_named date_field shown digits moment_at date_of last_begun total
last_date buf after r long c = dates_row last_time (bytes "%24:%MI:%SE.%CS %W3 %DY %M3 %CE%YR") 40 buf after r long c (bytes "06:57:57.75 Sat 03 Jun 2248") refl (refl, lit≤ tt) refl (lit≤ tt)

day_in_2000 : Holds (dates february_2000 "%CE%YR-%MN-%DY %24:%MI:%SE.%CS" 23 "2000-02-29 12:34:56.78" 22 23 1)
unfolding date_answer laying_of piece_at layout_from field_named date_field shown digits moment_at date_of last_begun total
day_in_2000 buf after r long c = dates_row february_2000 (bytes "%CE%YR-%MN-%DY %24:%MI:%SE.%CS") 23 buf after r long c (bytes "2000-02-29 12:34:56.78") refl (refl, lit≤ tt) refl (lit≤ tt)

last_of_february : Holds (dates february_1900 "%24:%MI:%SE.%CS %W3 %DY %M3 %CE%YR" 28 "23:59:59.99 Wed 28 Feb 1900" 27 28 1)
unfolding date_answer laying_of piece_at layout_from field_named date_field shown digits moment_at date_of last_begun total
last_of_february buf after r long c = dates_row february_1900 (bytes "%24:%MI:%SE.%CS %W3 %DY %M3 %CE%YR") 28 buf after r long c (bytes "23:59:59.99 Wed 28 Feb 1900") refl (refl, lit≤ tt) refl (lit≤ tt)

first_of_march : Holds (dates march_1900 "%24:%MI:%SE.%CS %W3 %DY %M3 %CE%YR" 28 "00:00:00.00 Thu 01 Mar 1900" 27 28 1)
unfolding date_answer laying_of piece_at layout_from field_named date_field shown digits moment_at date_of last_begun total
first_of_march buf after r long c = dates_row march_1900 (bytes "%24:%MI:%SE.%CS %W3 %DY %M3 %CE%YR") 28 buf after r long c (bytes "00:00:00.00 Thu 01 Mar 1900") refl (refl, lit≤ tt) refl (lit≤ tt)

day_366 : Holds (dates end_of_2000 "%DN" 4 "366" 3 4 1)
unfolding date_answer laying_of piece_at layout_from field_named date_field shown digits moment_at date_of last_begun total
day_366 buf after r long c = dates_row end_of_2000 (bytes "%DN") 4 buf after r long c (bytes "366") refl (refl, lit≤ tt) refl (lit≤ tt)

day_365 : Holds (dates end_of_1999 "%DN" 4 "365" 3 4 1)
unfolding date_answer laying_of piece_at layout_from field_named date_field shown digits moment_at date_of last_begun total
day_365 buf after r long c = dates_row end_of_1999 (bytes "%DN") 4 buf after r long c (bytes "365") refl (refl, lit≤ tt) refl (lit≤ tt)

percent_signs : Holds (dates first_time "%%CS" 4 "%CS" 3 4 1)
unfolding date_answer laying_of piece_at layout_from field_named date_field shown digits moment_at date_of last_begun total
percent_signs buf after r long c = dates_row first_time (bytes "%%CS") 4 buf after r long c (bytes "%CS") refl (refl, lit≤ tt) refl (lit≤ tt)

percent_sign_left : Holds (mistakes first_time "%%%" 0 bad_field 2 0)
unfolding date_answer laying_of piece_at layout_from field_named date_field shown digits moment_at date_of last_begun total
percent_sign_left buf after r long c = mistakes_row first_time (bytes "%%%") 0 buf after r long c _ refl (λ e. omega arith)

small_letters : Holds (mistakes first_time "%cs" 9 bad_field 0 0)
unfolding date_answer laying_of piece_at layout_from field_named date_field shown digits moment_at date_of last_begun total
small_letters buf after r long c = mistakes_row first_time (bytes "%cs") 9 buf after r long c _ refl (λ e. omega arith)

half_a_name : Holds (mistakes first_time "%CS%C" 9 bad_field 3 0)
unfolding date_answer laying_of piece_at layout_from field_named date_field shown digits moment_at date_of last_begun total
half_a_name buf after r long c = mistakes_row first_time (bytes "%CS%C") 9 buf after r long c _ refl (λ e. omega arith)

room_too_small : Holds (mistakes first_time "%CS" 2 no_room 0 3)
unfolding date_answer laying_of piece_at layout_from field_named date_field shown digits moment_at date_of last_begun total
room_too_small buf after r long c = mistakes_row first_time (bytes "%CS") 2 buf after r long c _ refl (λ e. omega arith)

empty_format : Holds (dates first_time "" 1 "" 0 1 1)
unfolding date_answer laying_of piece_at layout_from field_named date_field shown digits moment_at date_of last_begun total
empty_format buf after r long c = dates_row first_time (bytes "") 1 buf after r long c (bytes "") refl (refl, lit≤ tt) refl (lit≤ tt)

four_bytes : Holds (mistakes (0 ∷ 0 ∷ 0 ∷ 0 ∷ []) "%cs" 9 over_length 0 0)
unfolding date_answer laying_of piece_at layout_from field_named date_field shown digits moment_at date_of last_begun total
four_bytes buf after r long c = mistakes_row (0 ∷ 0 ∷ 0 ∷ 0 ∷ []) (bytes "%cs") 9 buf after r long c _ refl (λ e. omega arith)

-- rows that hold, and those behind them
joined : (n : ℕ) (rows : List Row) → All (take n rows) → All (drop n rows) → All rows
joined zero rows first rest = rest
joined (suc n) [] first rest = tt
joined (suc n) (row ∷ rows) first rest = (first.0, joined n rows first.1 rest)

-- the table, whole
pub worked_examples : All examples
worked_examples =
    let others : All (drop 26 examples) = (p13, (p13_farm, (p14, (p15, (without_a_zero_byte, (lacks_a_character, (with_a_zero_byte, (lacks_its_zero_byte, (a_byte_stays, (empty_text, (string_hides, (integer_hides, (integer_counts, (string_counts_not, (found_in_the_farm, (found_in_the_house, (sign_before_letter, (beginning_first, (first_byte_first, (no_entry, (a_byte_short, (both_through, (sign_found, (letter_found, (entries_exchanged, (longer_index, (macro_of_the_house, (macro_of_the_farm, (macro_spends_two, (farm_told_first, (house_told, (names_itself_thrice, (names_itself, (names_itself_behind, (zero_divisor_unread, (first_date, (last_date, (day_in_2000, (last_of_february, (first_of_march, (day_366, (day_365, (percent_signs, (percent_sign_left, (small_letters, (half_a_name, (room_too_small, (empty_format, (four_bytes, tt))))))))))))))))))))))))))))))))))))))))))))))))) in
    (p1, (p2, (p3, (p4, (p5, (p6, (p7, (p8, (p9, (p10, (p11, joined 15 (drop 11 examples) number_references others)))))))))))
