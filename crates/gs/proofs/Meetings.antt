-- What a reading meets, whatever bytes the text and the table have: each place lies in its text, and each fault has a listed number.
use mathlib.Core.Path.{refl}
use mathlib.Core.Bool.{true}
use mathlib.Core.List.Memᴰ
use mathlib.Core.List.{List, [], ◌∷◌, Memᴰ}
use Prim.Native.Nat.{ℕ, zero, suc, ◌-◌, ◌≤◌}
use native.Mathlib.Omega.{arith}
use native.Mathlib.Decide.{dec_le}
use lib.Dec.{eqb}
use lib.ListN.{length, take, drop}
use Rattle.paper.specs.Refusals.{too_big, bad_code, bad_string, bad_reference, unknown_name, too_deep, code_over_255, over_code}
use Rattle.paper.specs.Traces.{fault_number, Reference, Trace, faults, gives, asks, spends, enters}
use Rattle.paper.specs.declared.faults.Fault.{Fault}
use Rattle.paper.proofs.Choice.{either}
use Rattle.paper.proofs.Placed.{Placed, ended_at, faults_at, gives_on, asks_on, spends_at, enters_at}
use Rattle.paper.proofs.Listed.{member, Listed, ended_listed, faults_listed, gives_listed, asks_listed, spends_listed, enters_listed}
use Rattle.reader.specs.Reading.{reading, no_limit}
use Rattle.std.specs.Prelude.{Result, Ok, Err}
use Rattle.paper.specs.Refusals.{refusal_number}
use Rattle.paper.specs.declared.refusals.Refused.{Refused}
use Rattle.reader.specs.declared.Number.{Number as Valued}
use Rattle.variables.specs.Names.{Meaning, unknown, string_of, integer_of, macro_of}
use Rattle.symbols.specs.Symbols.{symbol_at, first_at, mode_of}
use Rattle.forms.specs.Calls.{decimal_of}
use Rattle.gs.specs.Readings.{gives_all, deepest, Expand, name_gives, content_gives, symbol_gives, symbols_from, whole_text, expands, read_at}
use Rattle.gs.specs.Translations.{translate_numbers}
use Rattle.symbols.specs.declared.forms.Mode.{Mode}
use Rattle.symbols.specs.declared.forms.Symbol.{Symbol}
use Rattle.symbols.specs.declared.forms.Symbol.TheVariants.{End, Byte, Reference as Names, Faulty}
use Rattle.symbols.proofs.Places.{Stands, quote_of, symbol_stands, first_stands}

-- the three faults of a symbol
symbol_listed : (number : ℕ) → 7 ≤ number → number ≤ 9 → Memᴰ number translate_numbers
symbol_listed number least most = go (dec_le number 7) (dec_le number 8)
  where
    go : Dec (number ≤ 7) → Dec (number ≤ 8) → Memᴰ number translate_numbers
    go (yes h) d = Memᴰ.cast (omega arith) (member bad_code translate_numbers refl)
    go (no n) (yes h) = Memᴰ.cast (omega arith) (member bad_string translate_numbers refl)
    go (no n) (no m) = Memᴰ.cast (omega arith) (member bad_reference translate_numbers refl)

pub record Met (size : ℕ) (t : Trace) : Type 0 where
  pub placed : Placed size t
  pub listed : Listed translate_numbers t

module _ (size : ℕ) where
  met_faults : (fault : Fault) (place : ℕ) → Memᴰ (fault_number fault) translate_numbers → place ≤ size → Met size (faults fault place)
  met_faults fault place m p = record { placed = faults_at p; listed = faults_listed m }

  met_gives : (byte : ℕ) (t : Trace) → Met size t → Met size (gives byte t)
  met_gives byte t m = record { placed = gives_on m.placed; listed = gives_listed m.listed }

  met_all : (bs : List ℕ) (t : Trace) → Met size t → Met size (gives_all bs t)
  met_all [] t m = m
  met_all (b ∷ bs) t m = met_gives b (gives_all bs t) (met_all bs t m)

  met_asks : (name : List ℕ) (t : Trace) → Met size t → Met size (asks name t)
  met_asks name t m = record { placed = asks_on m.placed; listed = asks_listed m.listed }

  met_spends : (place : ℕ) (t : Trace) → place ≤ size → Met size t → Met size (spends place t)
  met_spends place t p m = record { placed = spends_at p m.placed; listed = spends_listed m.listed }

  met_enters : (inner : ℕ) (reference : Reference) (value rest : Trace) → reference.place ≤ size → Met inner value → Met size rest
      → Met size (enters reference value rest)
  met_enters inner reference value rest p v m =
      record { placed = enters_at p v.placed m.placed; listed = enters_listed v.listed m.listed }

-- what a macro gives meets no more
pub record Meets (expand : Expand) : Type 0 where
  pub meets : (name value : List ℕ) (place size : ℕ) (rest : Trace) → place ≤ size → Met size rest → Met size (expand name place value rest)

module _ (expand : Expand) (m : Meets expand) (name : List ℕ) (place size : ℕ) (rest : Trace) (p : place ≤ size) (l : Met size rest) where
  name_met : (n : Meaning) → Met size (name_gives expand n name place rest)
  unfolding name_gives
  name_met unknown = met_faults size _ place (member unknown_name translate_numbers refl) p
  name_met (string_of bs) = met_spends size place (gives_all bs rest) p (met_all size bs rest l)
  name_met (integer_of v) = met_spends size place (gives_all (decimal_of v) rest) p (met_all size (decimal_of v) rest l)
  name_met (macro_of bs) = m.meets name bs place size rest p l

  content_met : (names : List ℕ → Meaning) (r : Result Valued Refused) → Met size (content_gives names expand r name place rest)
  unfolding content_gives
  content_met names (Ok v) =
      either (Met size) (over_code v.value) (λ _. met_faults size _ place (member code_over_255 translate_numbers refl) p)
      (λ _. met_gives size v.value rest l)
  content_met names (Err refused) =
      either (Met size) (eqb (refusal_number refused.why) too_big) (λ _. met_faults size _ place (member too_big translate_numbers refl) p)
      (λ _. met_asks size name (name_gives expand (names name) name place rest) (name_met (names name)))

module _ (names : List ℕ → Meaning) (expand : Expand) (m : Meets expand) (text : List ℕ) (flags : ℕ) where
  module _ (mode : Mode) (quote : quote_of mode ≤ length text) where
    symbol_met : (at : ℕ) (s : Symbol) (rest : ℕ → Trace) → at ≤ length text → Stands (length text) at (quote_of mode) s
        → ((next : ℕ) → next ≤ length text → Met (length text) (rest next)) → Met (length text) (symbol_gives names expand text at s rest)
    unfolding symbol_gives
    symbol_met at (End end) rest a s f = record { placed = ended_at s.within; listed = ended_listed }
    symbol_met at (Byte b next) rest a s f = met_gives (length text) b (rest next) (f next s.within)
    symbol_met at (Names start end next) rest a s f =
        let name = take (end - start) (drop start text) in
        content_met expand m name at (length text) (rest next) a (f next s.within) names (reading name true no_limit)
    symbol_met at (Faulty fault place) rest a s f =
        met_faults (length text) fault place.0 (symbol_listed (fault_number fault) s.least s.most) (omega (arith, s.within))

    symbols_met : (more at : ℕ) → at ≤ length text → Met (length text) (symbols_from names more expand text flags mode at)
    unfolding symbols_from
    symbols_met zero at h = record { placed = ended_at h; listed = ended_listed }
    symbols_met (suc more) at h =
        symbol_met at (symbol_at text flags mode at) (symbols_from names more expand text flags mode) h
        (symbol_stands text flags mode at h refl) (symbols_met more)

  whole_met : Met (length text) (whole_text names expand text flags)
  unfolding whole_text
  whole_met =
      let stands = first_stands text flags in
      symbols_met (mode_of text flags) stands.1 (suc (length text)) (first_at text flags) stands.0

module _ (names : List ℕ → Meaning) where
  expands_meets : (levels : ℕ) → Meets (expands names levels)
  unfolding expands
  expands_meets zero = record { meets = λ name value place size rest p l. met_faults size _ place (member too_deep translate_numbers refl) p }
  expands_meets (suc levels) =
      record {
        meets = λ name value place size rest p l.
            met_spends size place _ p
            (met_enters size (length value) (record { name = name; place = place }) (whole_text names (expands names levels) value 0) rest p
            (whole_met names (expands names levels) (expands_meets levels) value 0) l);
      }

  pub read_met : (depth : ℕ) (text : List ℕ) (flags : ℕ) → Met (length text) (read_at names depth text flags)
  read_met depth text flags = whole_met names (expands names (deepest - depth)) (expands_meets (deepest - depth)) text flags
