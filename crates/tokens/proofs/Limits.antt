-- How far a token's numbers go: a number that the reader refuses has a fault of numbers, at a place inside the text.
use mathlib.Core.Bool.{false}
use mathlib.Core.List.{List}
use mathlib.Core.Path.{◌≡◌, refl}
use Prim.Native.Nat.{ℕ, ◌+◌, ◌≤◌}
use native.Mathlib.Omega.{arith}
use lib.Dec.{eqb}
use lib.ListN.{length, get_or, drop, length-drop}
use Rattle.paper.specs.Bytes.{space, spaces, ends, letter}
use Rattle.paper.specs.Texts.{bytes}
use Rattle.paper.proofs.Choice.{either}
use Rattle.paper.proofs.Runs.{passed_within}
use Rattle.reader.specs.Reading.{no_limit, reading}
use Rattle.std.specs.Prelude.{Result, Ok, Err}
use Rattle.paper.specs.declared.refusals.Refusal.{Refusal}
use Rattle.paper.specs.declared.refusals.Refused.{Refused}
use Rattle.reader.specs.declared.Number.{Number as Read}
use Rattle.records.specs.Records.{same_bytes}
use Rattle.tokens.specs.Tokens.{Lexeme, word_token, fault_of, number_by, single, from_less, from_greater, symbol_at, numeral, starting_at, token_at}
use Rattle.tokens.specs.declared.Token.{Token}
use Rattle.tokens.specs.declared.Token.TheVariants.{End, Operator as Operates, Number, FaultyNumber, Name, Open, Close, Strange}
use Rattle.tokens.proofs.Places.{Reads, reading_reads}

-- the fault and the place that a refused number carries, in a text of so many bytes
abbrev pub FaultyIn : ℕ → Token → Type 0
FaultyIn size End = Unit {0}
FaultyIn size (Operates operator) = Unit {0}
FaultyIn size (Number value) = Unit {0}
FaultyIn size (FaultyNumber fault place) = ((why : Refusal) × (fault ≡ fault_of why)) × (place ≤ size)
FaultyIn size Name = Unit {0}
FaultyIn size Open = Unit {0}
FaultyIn size Close = Unit {0}
FaultyIn size Strange = Unit {0}

module _ (text : List ℕ) where
  abbrev size : ℕ
  size = length text

  abbrev pub InText : Lexeme → Type 0
  InText l = FaultyIn size l.token

  word_in : (word : List ℕ) → FaultyIn size (word_token word)
  unfolding word_token
  word_in word =
      either (FaultyIn size) (same_bytes (bytes "MOD") word) (λ _. tt)
      (λ _. either (FaultyIn size) (same_bytes (bytes "AND") word) (λ _. tt)
      (λ _. either (FaultyIn size) (same_bytes (bytes "OR") word) (λ _. tt)
      (λ _. either (FaultyIn size) (same_bytes (bytes "EOR") word) (λ _. tt)
      (λ _. either (FaultyIn size) (same_bytes (bytes "NOT") word) (λ _. tt) (λ _. tt)))))

  number_in : (at : ℕ) (r : Result Read Refused) → at ≤ size → Reads (length (drop at text)) r → InText (number_by r at)
  number_in at (Ok n) h r = tt
  number_in at (Err refused) h r = ((refused.why, refl), omega (arith, length-drop at text))

  single_in : (c : ℕ) → FaultyIn size (single c)
  unfolding single
  single_in c =
      either (FaultyIn size) (eqb c 40) (λ _. tt)
      (λ _. either (FaultyIn size) (eqb c 41) (λ _. tt)
      (λ _. either (FaultyIn size) (eqb c 42) (λ _. tt)
      (λ _. either (FaultyIn size) (eqb c 43) (λ _. tt)
      (λ _. either (FaultyIn size) (eqb c 45) (λ _. tt)
      (λ _. either (FaultyIn size) (eqb c 47) (λ _. tt) (λ _. either (FaultyIn size) (eqb c 61) (λ _. tt) (λ _. tt)))))))

  symbol_in : (at : ℕ) → InText (symbol_at text at)
  unfolding symbol_at from_less from_greater
  symbol_in at =
      let c = get_or text at 0 in
      let d = get_or text (at + 1) 0 in
      either InText (eqb c 60)
      (λ _. either InText (eqb d 62) (λ _. tt) (λ _. either InText (eqb d 61) (λ _. tt) (λ _. either InText (eqb d 60) (λ _. tt) (λ _. tt))))
      (λ _. either InText (eqb c 62)
      (λ _. either InText (eqb d 61) (λ _. tt)
      (λ _. either InText (eqb d 62) (λ _. either InText (eqb (get_or text (at + 2) 0) 62) (λ _. tt) (λ _. tt)) (λ _. tt)))
      (λ _. single_in c))

  starting_in : (at : ℕ) → at ≤ size → InText (starting_at text at)
  unfolding starting_at
  starting_in at h =
      let c = get_or text at 0 in
      either InText (ends c) (λ _. tt)
      (λ _. either InText (letter c) (λ _. word_in _)
      (λ _. either InText (numeral c) (λ _. number_in at (reading (drop at text) false no_limit) h (reading_reads (drop at text) false no_limit)) (λ _. symbol_in at)))

  pub token_in : (at : ℕ) → at ≤ size → InText (token_at text at)
  token_in at h = starting_in (at + spaces (drop at text)) (passed_within space text at h)
