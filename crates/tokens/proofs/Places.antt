-- Where tokens stand: at or behind the place asked for, and inside the text where that is. An operator, a number, a name or a bracket takes
-- bytes of it; past the last byte stands the text's end.
use mathlib.Core.Bool.{Bool, true, false, ◌||◌, and-eq-true_iff}
use mathlib.Core.List.{List}
use mathlib.Core.Path.{◌≡◌, refl, sym, ap, subst}
use Prim.Native.Nat.{ℕ, ◌+◌, ◌<◌, ◌≤◌}
use native.Mathlib.Decide.{dec_le}
use native.Mathlib.Omega.{arith}
use borrow.Author.Tests.{eqb-true, eqb-false}
use lib.Dec.{ltb, eqb}
use lib.ListN.{length, get_or, drop, length-drop, get_or-eq_default}
use Rattle.paper.specs.Bytes.{space, spaces, ends, letter, word_byte}
use Rattle.paper.specs.Refusals.{longest}
use Rattle.paper.proofs.Choice.{either, hit}
use Rattle.paper.proofs.Runs.{inside, goes_on_lem, run_more, run_short, passed_within}
use Rattle.std.specs.Prelude.{Result, Ok, Err}
use Rattle.paper.specs.declared.refusals.Refused.{Refused}
use Rattle.reader.specs.declared.Number.{Number as Read}
use Rattle.reader.specs.Reading.{run, goes_on, no_limit, judged, based, in_base, marked, numbered, reading}
use Rattle.reader.proofs.Laws.{run_within}
use Rattle.tokens.specs.declared.Token.{Token}
use Rattle.tokens.specs.declared.Token.TheVariants.{End, Operator, Number, FaultyNumber, Name, Open, Close, Strange}
use Rattle.tokens.specs.Tokens.{Lexeme, lexeme, word_at, number_by, from_less, from_greater, symbol_at, numeral, starting_at, token_at}

-- the tokens that an expression is made of: operators, numbers, names, brackets
abbrev pub Takes : Token → Type 0
Takes End = ⊥
Takes (Operator operator) = Unit {0}
Takes (Number value) = Unit {0}
Takes (FaultyNumber fault place) = ⊥
Takes Name = Unit {0}
Takes Open = Unit {0}
Takes Close = Unit {0}
Takes Strange = ⊥

-- it starts at or behind the place asked for, ends inside the text, and takes a byte at least where an expression is made of it
pub record Stands (text : List ℕ) (at : ℕ) (l : Lexeme) : Type 0 where
  pub starts : at ≤ l.place
  pub reaches : l.place ≤ l.next
  pub within : l.next ≤ length text
  pub takes : Takes l.token → l.place < l.next

-- a number that is read takes a byte at least, and ends inside the text; one that is refused is refused there
abbrev pub Reads : ℕ → Result Read Refused → Type 0
Reads size (Ok n) = (0 < n.end.0) × (n.end.0 ≤ size)
Reads size (Err r) = r.at.0 ≤ size

module _ (text : List ℕ) (whole : Bool) (limit start : ℕ) where
  abbrev R : Result Read Refused → Type 0
  R = Reads (length text)

  judged_reads : (first end value : ℕ) → start ≤ length text → first ≤ end → end ≤ length text → R (judged text whole limit start first end value)
  unfolding judged
  judged_reads first end value s f e =
      either R (eqb end first) (λ _. omega arith)
      (λ n. either R (ltb 4294967295 value) (λ _. s)
      (λ _. either R (goes_on text whole end) (λ _. e)
      (λ _. either R (ltb limit value) (λ _. s)
      (λ _.
      let some = eqb-false end first n in
      omega arith))))

  based_reads : (first base : ℕ) → start ≤ length text → first ≤ length text → R (based text whole limit start first base)
  based_reads first base s f = judged_reads first _ _ s (omega arith) (run_within base first text f)

  in_base_reads : (first base : ℕ) → start ≤ length text → first ≤ length text → R (in_base text whole limit start first base)
  unfolding in_base
  in_base_reads first base s f = either R (ltb base 2 || ltb 36 base) (λ _. s) (λ _. based_reads first base s f)

  numbered_reads : start ≤ length text → R (numbered text whole limit start)
  unfolding numbered
  numbered_reads s =
      let mark = start + length (run 10 (drop start text)) in
      either R (eqb (get_or text start 0) 38)
      (λ hex. based_reads (start + 1) 16 s (omega (arith, inside text start (omega (arith, eqb-true (get_or text start 0) 38 hex)))))
      (λ _. either R (marked text start mark)
      (λ m.
      let u = eqb-true (get_or text mark 0) 95 ((and-eq-true_iff (ltb start mark) _).0 m).1 in
      in_base_reads (mark + 1) _ s (omega (arith, inside text mark (omega arith))))
      (λ _. based_reads start 10 s s))

pub reading_reads : (text : List ℕ) (whole : Bool) (limit : ℕ) → Reads (length text) (reading text whole limit)
unfolding reading
reading_reads text whole limit =
    either (Reads (length text)) (ltb longest (length text)) (λ _. omega arith) (λ _. numbered_reads text whole limit _ (run_short space text))

-- the token that starts at a place
module _ (text : List ℕ) (at : ℕ) where
  abbrev S : Lexeme → Type 0
  S = Stands text at

  sized : (token : Token) (size : ℕ) → 0 < size → at + size ≤ length text → S (lexeme token at size)
  sized token size some far = record { starts = omega arith; reaches = omega arith; within = far; takes = λ _. omega arith }

  empty : (token : Token) → (Takes token → ⊥) → at ≤ length text → S (lexeme token at 0)
  empty token none h = record { starts = omega arith; reaches = omega arith; within = omega arith; takes = λ t. absurd (none t) }

  -- so many bytes, the last of which is known
  ended : (token : Token) (last byte : ℕ) → 0 < byte → eqb (get_or text (at + last) 0) byte ≡ true → S (lexeme token at (last + 1))
  ended token last byte b e =
      let h = eqb-true (get_or text (at + last) 0) byte e in
      sized token (last + 1) (omega arith) (omega (arith, inside text (at + last) (omega arith)))

  word_stands : letter (get_or text at 0) ≡ true → at < length text → S (word_at text at)
  unfolding word_byte
  word_stands l h = sized _ _ (omega (arith, run_more word_byte text at h (rw l))) (passed_within word_byte text at (omega arith))

  module _ (h : at < length text) where
    number_stands : (r : Result Read Refused) → Reads (length (drop at text)) r → S (number_by r at)
    number_stands (Ok n) r = sized _ _ r.0 (omega (arith, r.1, length-drop at text))
    number_stands (Err refused) r = empty _ (λ t. t) (omega arith)

    less_stands : S (from_less at (get_or text (at + 1) 0))
    unfolding from_less
    less_stands =
        let c = get_or text (at + 1) 0 in
        either S (eqb c 62) (ended _ 1 62 (omega arith))
        (λ _. either S (eqb c 61) (ended _ 1 61 (omega arith))
        (λ _. either S (eqb c 60) (ended _ 1 60 (omega arith)) (λ _. sized _ 1 (omega arith) (omega arith))))

    greater_stands : S (from_greater at (get_or text (at + 1) 0) (get_or text (at + 2) 0))
    unfolding from_greater
    greater_stands =
        let c = get_or text (at + 1) 0 in
        either S (eqb c 61) (ended _ 1 61 (omega arith))
        (λ _. either S (eqb c 62)
        (λ second. either S (eqb (get_or text (at + 2) 0) 62) (ended _ 2 62 (omega arith)) (λ _. ended _ 1 62 (omega arith) second))
        (λ _. sized _ 1 (omega arith) (omega arith)))

    symbol_stands : S (symbol_at text at)
    unfolding symbol_at
    symbol_stands =
        let c = get_or text at 0 in
        either S (eqb c 60) (λ _. less_stands)
        (λ _. either S (eqb c 62) (λ _. greater_stands) (λ _. sized _ 1 (omega arith) (omega arith)))

  starting_stands : at ≤ length text → S (starting_at text at)
  unfolding starting_at
  starting_stands w =
      let c = get_or text at 0 in
      either S (ends c) (λ _. empty _ (λ t. t) w)
      (λ n.
      let h = goes_on_lem text at n in
      either S (letter c) (λ l. word_stands l h)
      (λ _. either S (numeral c) (λ _. number_stands h (reading (drop at text) false no_limit) (reading_reads (drop at text) false no_limit)) (λ _. symbol_stands h)))

  ended_past : length text ≤ at → (starting_at text at).token ≡ End
  unfolding starting_at
  ended_past h = ap (λ (l : Lexeme). l.token) (sym (hit (ends (get_or text at 0)) _ _ (ap ends (get_or-eq_default text 0 h)) refl))

pub stands : (text : List ℕ) (at : ℕ) → at ≤ length text → Stands text at (token_at text at)
stands text at h =
    let s = starting_stands text (at + spaces (drop at text)) (passed_within space text at h) in
    record { starts = omega arith; reaches = s.reaches; within = s.within; takes = s.takes }

pub past_end : (text : List ℕ) (at : ℕ) → length text ≤ at → (token_at text at).token ≡ End
past_end text at h = ended_past text (at + spaces (drop at text)) (omega arith)

-- so a token that an expression is made of was asked for inside the text
pub asked_within : (text : List ℕ) (at : ℕ) → Takes (token_at text at).token → at ≤ length text
asked_within text at t = go (dec_le at (length text))
  where
    go : Dec (at ≤ length text) → at ≤ length text
    go (yes h) = h
    go (no n) = absurd (subst Takes (past_end text at (omega arith)) t)
