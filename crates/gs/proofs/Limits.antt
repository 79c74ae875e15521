-- How far the numbers of a translation go: every look-up gives 255 bytes at the most, where a table's bytes are bytes.
use mathlib.Core.Path.{◌≡◌, refl, ap, sym, subst}
use mathlib.Core.Bool.{Bool, true, false}
use mathlib.Core.List.Memᴰ
use mathlib.Core.List.{List, [], ◌∷◌, Memᴰ}
use Prim.Native.Nat.{ℕ, zero, suc, ◌+◌, ◌-◌, ◌*◌, ◌≤◌}
use native.Mathlib.Omega.{arith}
use borrow.Author.Tests.{eqb-false}
use lib.Dec.{ltb, eqb}
use lib.ListN.{length, take, drop, length-append, length-take}
use Rattle.paper.specs.Answers.{Answer}
use Rattle.paper.specs.Refusals.{no_room, too_big, allowance_spent, over_length, longest, bad_index, over_code}
use Rattle.paper.specs.Traces.{Reference, Trace, ended, faults, gives, asks, spends, enters, bytes, Run, finished, refused, run, run_place, fit, Ending, done, faulted, beyond, ending, reached, look_ups, allowed}
use Rattle.paper.specs.declared.faults.Fault.{Fault}
use Rattle.paper.proofs.Choice.{clash, either}
use Rattle.paper.proofs.Placed.{run_placed}
use Rattle.paper.proofs.Listed.{member, RunListed, run_listed}
use Rattle.paper.proofs.DemandThree.{refused_number, finished_within}
use Rattle.reader.specs.Reading.{reading, no_limit}
use Rattle.std.specs.Prelude.{Result, Ok, Err}
use Rattle.paper.specs.Refusals.{refusal_number}
use Rattle.paper.specs.declared.refusals.Refused.{Refused}
use Rattle.reader.specs.declared.Number.{Number as Valued}
use Rattle.forms.specs.Calls.{decimal_of}
use Rattle.forms.specs.declared.forms.Width.TheVariants.{Word}
use Rattle.numbers.proofs.Bounds.{decimal_short}
use Rattle.symbols.specs.Symbols.{symbol_at, first_at, mode_of}
use Rattle.indexes.specs.Indexes.{Given, fits}
use Rattle.gs.specs.Readings.{gives_all, deepest, Expand, name_gives, content_gives, symbol_gives, symbols_from, whole_text, expands}
use Rattle.gs.specs.Translations.{Translation, reading_of, translated_by, translated_over, translated, translated_answer, met_numbers, translate_numbers}
use Rattle.symbols.specs.declared.forms.Mode.{Mode}
use Rattle.symbols.specs.declared.forms.Symbol.{Symbol}
use Rattle.symbols.specs.declared.forms.Symbol.TheVariants.{End, Byte, Reference as Names, Faulty}
use Rattle.paper.specs.declared.Holder.{Holder}
use Rattle.records.specs.Records.{Entry, value_length, value_start, value_at, entry_at}
use Rattle.records.specs.Kinds.{kind_of}
use Rattle.records.specs.declared.kinds.Kind.{Kind}
use Rattle.records.specs.declared.kinds.Kind.TheVariants.{Text, Integer, Macro}
use Rattle.variables.specs.Holdings.{held_by, Holding, nowhere, held, sought_in_both}
use Rattle.variables.specs.Names.{Meaning, unknown, string_of, integer_of, macro_of, value_as, meant, in_reading, names_of}
use Rattle.variables.specs.Judgements.{judged, judged_by}
use Rattle.std.specs.Prelude.{Result, Ok, Err}
use Rattle.paper.specs.declared.refusals.BadTableOf.{BadTableOf}
use Rattle.variables.proofs.Bounds.{AllBytes, Within, judged_within}
use Rattle.variables.proofs.Own.{OwnHeld, both_own}
use Rattle.symbols.proofs.Places.{Stands, quote_of, symbol_stands, first_stands}
use Rattle.gs.proofs.Meetings.{read_met}
use Rattle.paper.proofs.Told.{Told, run_told}
use Rattle.gs.proofs.Orders.{in_order}

-- where the reading succeeds it gives no more bytes than a number of its own and 255 for each look-up
pub record Short (n : ℕ) (t : Trace) : Type 0 where
  pub short : (end : ℕ) → ending t ≡ done end → length (bytes t) ≤ n + 255 * look_ups t

short_ended : (n end : ℕ) → Short n (ended end)
short_ended n end = record { short = λ e q. omega arith }

short_faults : (n : ℕ) (fault : Fault) (place : ℕ) → Short n (faults fault place)
short_faults n fault place = record { short = λ e q. omega arith }

short_more : (n m : ℕ) (t : Trace) → n ≤ m → Short n t → Short m t
short_more n m t h l = record { short = λ e q. omega (arith, l.short e q) }

short_gives : (n byte : ℕ) (t : Trace) → Short n t → Short (suc n) (gives byte t)
short_gives n byte t l = record { short = λ e q. omega (arith, l.short e q) }

short_asks : (n : ℕ) (name : List ℕ) (t : Trace) → Short n t → Short n (asks name t)
short_asks n name t l = record { short = l.short }

short_spends : (n place : ℕ) (t : Trace) → Short (n + 255) t → Short n (spends place t)
short_spends n place t l = record { short = λ e q. omega (arith, l.short e q) }

short_all : (bs : List ℕ) (n m : ℕ) (t : Trace) → length bs + n ≤ m → Short n t → Short m (gives_all bs t)
short_all [] n m t h l = short_more n m t (omega arith) l
short_all (b ∷ bs) n zero t h l = absurd (omega arith)
short_all (b ∷ bs) n (suc m) t h l = short_gives m b (gives_all bs t) (short_all bs n m t (omega arith) l)

both_done : (v rest : Ending) (place end : ℕ) → beyond v place rest ≡ done end → ((e : ℕ) × (v ≡ done e)) × (rest ≡ done end)
both_done (done e) rest place end h = ((e, refl), h)
both_done (faulted fault inner) rest place end h = clash (cc)

short_enters : (n : ℕ) (reference : Reference) (value rest : Trace) → Short 255 value → Short n rest → Short (n + 255) (enters reference value rest)
short_enters n reference value rest v l =
    record {
      short = λ e q.
          let b = both_done (ending value) (ending rest) reference.place e q in
          let reach : reached (ending value) (look_ups rest) ≡ look_ups rest = ap (λ o. reached o (look_ups rest)) b.0.1 in
          omega (arith, length-append (bytes value) (bytes rest), v.short b.0.0 b.0.1, l.short e b.1, reach);
    }

-- a meaning whose value is no longer than 255 bytes
pub data Fitting : Meaning → Type 0 where
  unknown_fits : Fitting unknown
  string_fits : {bs : List ℕ} → length bs ≤ 255 → Fitting (string_of bs)
  integer_fits : {value : ℕ} → Fitting (integer_of value)
  macro_fits : {bs : List ℕ} → length bs ≤ 255 → Fitting (macro_of bs)

-- what a macro gives is paid for by its look-up
pub record Paid (expand : Expand) : Type 0 where
  pub paid : (name value : List ℕ) (place n : ℕ) (rest : Trace) → length value ≤ 255 → Short n rest → Short n (expand name place value rest)

module _ (expand : Expand) (pays : Paid expand) (name : List ℕ) (place n : ℕ) (rest : Trace) (l : Short n rest) where
  name_short : (m : Meaning) → Fitting m → Short n (name_gives expand m name place rest)
  unfolding name_gives
  name_short unknown f = short_faults n _ place
  name_short (string_of bs) (string_fits h) = short_spends n place (gives_all bs rest) (short_all bs n (n + 255) rest (omega arith) l)
  name_short (integer_of v) f =
      short_spends n place (gives_all (decimal_of v) rest) (short_all (decimal_of v) n (n + 255) rest (omega (arith, decimal_short true false Word v)) l)
  name_short (macro_of bs) (macro_fits h) = pays.paid name bs place n rest h l

  content_short : (names : List ℕ → Meaning) (r : Result Valued Refused) → Fitting (names name) → Short (suc n) (content_gives names expand r name place rest)
  unfolding content_gives
  content_short names (Ok v) f =
      either (Short (suc n)) (over_code v.value) (λ _. short_faults (suc n) _ place) (λ _. short_gives n v.value rest l)
  content_short names (Err kept) f =
      either (Short (suc n)) (eqb (refusal_number kept.why) too_big) (λ _. short_faults (suc n) _ place)
      (λ _. short_asks (suc n) name (name_gives expand (names name) name place rest)
      (short_more n (suc n) (name_gives expand (names name) name place rest) (omega arith) (name_short (names name) f)))

module _ (names : List ℕ → Meaning) (fits : (name : List ℕ) → Fitting (names name)) (expand : Expand) (pays : Paid expand) (text : List ℕ) (flags : ℕ)
  where
    module _ (mode : Mode) where
      symbol_short : (at : ℕ) (s : Symbol) (rest : ℕ → Trace) → Stands (length text) at (quote_of mode) s
          → ((next : ℕ) → next ≤ length text → Short (length text - next) (rest next))
          → Short (length text - at) (symbol_gives names expand text at s rest)
      unfolding symbol_gives
      symbol_short at (End end) rest s f = short_ended _ end.0
      symbol_short at (Byte b next) rest s f =
          short_more _ _ (gives b (rest next)) (omega (arith, s.forward, s.within)) (short_gives _ b (rest next) (f next s.within))
      symbol_short at (Names start end next) rest s f =
          let name = take (end - start) (drop start text) in
          short_more (suc (length text - next)) _ (content_gives names expand (reading name true no_limit) name at (rest next))
          (omega (arith, s.begins, s.long, s.behind, s.within))
          (content_short expand pays name at (length text - next) (rest next) (f next s.within) names (reading name true no_limit) (fits name))
      symbol_short at (Faulty fault place) rest s f = short_faults _ fault place.0

      symbols_short : (more at : ℕ) → at ≤ length text → Short (length text - at) (symbols_from names more expand text flags mode at)
      unfolding symbols_from
      symbols_short zero at h = short_ended _ at
      symbols_short (suc more) at h =
          symbol_short at (symbol_at text flags mode at) (symbols_from names more expand text flags mode)
          (symbol_stands text flags mode at h refl) (symbols_short more)

    pub whole_short : Short (length text) (whole_text names expand text flags)
    unfolding whole_text
    whole_short =
        short_more (length text - first_at text flags) (length text)
        (symbols_from names (suc (length text)) expand text flags (mode_of text flags) (first_at text flags)) (omega arith)
        (symbols_short (mode_of text flags) (suc (length text)) (first_at text flags) (first_stands text flags).0)

expands_paid : (names : List ℕ → Meaning) → ((name : List ℕ) → Fitting (names name)) → (levels : ℕ) → Paid (expands names levels)
unfolding expands
expands_paid names fits zero = record { paid = λ name value place n rest h l. short_faults n _ place }
expands_paid names fits (suc levels) =
    record {
      paid = λ name value place n rest h l.
          short_spends n place _
          (short_enters n (record { name = name; place = place }) (whole_text names (expands names levels) value 0) rest
          (short_more (length value) 255 (whole_text names (expands names levels) value 0) h
          (whole_short names fits (expands names levels) (expands_paid names fits levels) value 0))
          l);
    }

module _ (farm house : List ℕ) (bs : AllBytes farm house) where
  kind_fits : (k : Kind) (value : List ℕ) → length value ≤ 255 → Fitting (value_as k value)
  kind_fits Text value h = string_fits h
  kind_fits Integer value h = integer_fits
  kind_fits Macro value h = macro_fits h

  entry_fits : (holder : Holder) (e : Entry) → e ≡ entry_at (held_by holder farm house) e.place → Fitting (meant e)
  unfolding meant entry_at value_at
  entry_fits holder e h =
      let table = held_by holder farm house in
      let value : e.value ≡ take (value_length table e.place) (drop (value_start table e.place) table) = ap (λ (f : Entry). f.value) h in
      kind_fits (kind_of e.kind) e.value
      (omega (arith, ap length value, length-take (value_length table e.place) (drop (value_start table e.place) table), bs holder (e.place + 4)))

  sought_fits : (h : Holding) → OwnHeld farm house h → Fitting (in_reading h)
  sought_fits nowhere o = unknown_fits
  sought_fits (held holder e) o = entry_fits holder e (o.own holder e refl)

  pub names_fit : (name : List ℕ) → Fitting (names_of farm house name)
  names_fit name = sought_fits (sought_in_both farm house name) (both_own farm house name)

-- the numbers of an answer are listed, whatever the bytes are
module _ (text farm house : List ℕ) (flags allowance room : ℕ) where
  abbrev reads : Trace
  reads = reading_of text farm house flags

  abbrev Numbered : Translation → Type 0
  Numbered r = Memᴰ (translated_answer r).number translate_numbers

  listed_by : (r : Run) → RunListed translate_numbers r → Told r → Numbered (translated_by (fit r (length (bytes reads)) room))
  listed_by (finished end left) l t =
      either (λ a. Numbered (translated_by a)) (ltb room (length (bytes reads))) (λ _. member no_room translate_numbers refl) (λ _. member 0 translate_numbers refl)
  listed_by (refused number place) l t =
      either Numbered (eqb number 0) (λ _. member 0 translate_numbers refl) (λ _. subst (λ k. Memᴰ k translate_numbers) (sym t) l)

  listed_over : (d : Result ℕ BadTableOf) (fit : Bool) → Within d → Numbered (translated_over (judged_by d) fit reads allowance room)
  listed_over (Ok count) false b = member bad_index translate_numbers refl
  listed_over (Ok count) true b =
      listed_by (run reads (allowed allowance))
      (run_listed translate_numbers (member allowance_spent translate_numbers refl) (read_met (names_of farm house) 0 text flags).listed (allowed allowance))
      (run_told reads (allowed allowance))
  listed_over (Err bad) fit b = Memᴰ.append_left (bad_index ∷ met_numbers) b.2

  pub translated_listed : (given : Given) → Memᴰ (translated_answer (translated text farm house given flags allowance room)).number translate_numbers
  translated_listed given =
      in_order text farm house given flags allowance room Numbered (member over_length translate_numbers refl)
      (λ _. listed_over (judged farm house) (fits given house) (judged_within farm house))

-- how far the numbers of an answer go
pub record Limited (a : Answer) : Type 0 where
  pub number : a.number ≤ 255
  pub place : a.place ≤ longest
  pub need : a.need ≤ 326655

module _ (text farm house : List ℕ) (flags allowance room : ℕ) (bs : AllBytes farm house) where
  abbrev t : Trace
  t = reading_of text farm house flags

  short_reading : Short (length text) t
  short_reading =
      whole_short (names_of farm house) (names_fit farm house bs) (expands (names_of farm house) deepest) (expands_paid (names_of farm house) (names_fit farm house bs) deepest) text flags

  placed_run : {r : Run} → run t (allowed allowance) ≡ r → run_place r ≤ length text
  placed_run e = subst (λ r. run_place r ≤ length text) e (run_placed (read_met (names_of farm house) 0 text flags).placed (allowed allowance))

  limited_by : (r : Run) → length text ≤ longest → run t (allowed allowance) ≡ r → Limited (translated_answer (translated_by (fit r (length (bytes t)) room)))
  limited_by (finished end left) h e =
      let w = finished_within t (allowed allowance) end left e in
      let s = short_reading.short end w.1 in
      let p : end ≤ length text = placed_run e in
      either (λ a. Limited (translated_answer (translated_by a))) (ltb room (length (bytes t)))
      (λ _. record { number = omega arith; place = omega arith; need = omega (arith, w.0) })
      (λ _. record { number = omega arith; place = omega arith; need = omega (arith, w.0) })
  limited_by (refused number place) h e =
      let n = refused_number t (allowed allowance) number place e in
      let p : place ≤ length text = placed_run e in
      either (λ r. Limited (translated_answer r)) (eqb number 0)
      (λ _. record { number = omega arith; place = omega arith; need = omega arith })
      (λ _. record { number = omega (arith, subst Told e (run_told t (allowed allowance))); place = omega arith; need = omega arith })

  limited_over :
      (d : Result ℕ BadTableOf) (fit : Bool) → Within d → length text ≤ longest → Limited (translated_answer (translated_over (judged_by d) fit t allowance room))
  limited_over (Ok count) true b h = limited_by (run t (allowed allowance)) h refl
  limited_over (Ok count) false b h = record { number = omega arith; place = omega arith; need = omega arith }
  limited_over (Err bad) fit b h = record { number = b.0; place = b.1; need = omega arith }

  pub translated_limited : (given : Given) → Limited (translated_answer (translated text farm house given flags allowance room))
  translated_limited given =
      in_order text farm house given flags allowance room (λ r. Limited (translated_answer r))
      (record { number = omega arith; place = omega arith; need = omega arith })
      (limited_over (judged farm house) (fits given house) (judged_within farm house))
