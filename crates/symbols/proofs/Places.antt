-- Where symbols stand: each goes on behind its place and stays inside the text, or has a place in the text.
use mathlib.Core.Bool.{Bool, true, false, cond, ◌||◌, ◌&&◌, not, and-eq-true_iff}
use mathlib.Core.List.{List}
use mathlib.Core.Path.{◌≡◌, refl, sym, subst, ◌∙◌}
use Prim.Native.Nat.{ℕ, ◌+◌, ◌<◌, ◌≤◌, max}
use native.Mathlib.Omega.{arith}
use borrow.Author.Tests.{ltb-true, eqb-true}
use lib.Dec.{ltb, eqb}
use lib.ListN.{length, get_or, drop}
use Rattle.std.specs.Prelude.{Option, Some, None}
use Rattle.std.specs.Option.{option_map}
use Rattle.paper.specs.Bytes.{run_of, space, spaces, ends, name_byte}
use Rattle.paper.specs.Traces.{fault_number}
use Rattle.paper.specs.declared.faults.Fault.TheVariants.{BadCode}
use Rattle.paper.proofs.Choice.{either}
use Rattle.paper.proofs.Runs.{inside, not_zero, run_short, passed_within}
use Rattle.symbols.specs.declared.forms.Mode.{Mode}
use Rattle.symbols.specs.declared.forms.Mode.TheVariants.{Plain, Quoted}
use Rattle.symbols.specs.declared.forms.Symbol.{Symbol}
use Rattle.symbols.specs.declared.forms.Symbol.TheVariants.{End, Byte, Reference, Faulty}
use Rattle.symbols.specs.Flags.{space_ends, bar_plain}
use Rattle.symbols.specs.inner.SymbolSteps.{at_end, other}
use Rattle.symbols.specs.Symbols.{code, coded, topped, topped_code, ending_space, topped_symbol, barred, referred, closed, active, quoted_other, symbol_at, quote_opens, first_at, mode_of, faulty}
use Rattle.symbols.proofs.Laws.{left_false, uncoded, symbol_tested}

-- in a text of so many bytes that is read in a mode, for a symbol at a place of it
module _ (size at quote : ℕ) where
  pub record EndsAt (place : ℕ) : Type 0 where
    pub forward : at ≤ place
    pub within : place ≤ size

  pub record GoesOn (next : ℕ) : Type 0 where
    pub forward : at < next
    pub within : next ≤ size

  pub record RefersTo (start end next : ℕ) : Type 0 where
    pub begins : start ≡ at + 1
    pub long : start < end
    pub behind : next ≡ end + 1
    pub within : next ≤ size

  -- 7, 8 or 9, in the text or at its open quote
  pub record FaultsAt (number place : ℕ) : Type 0 where
    pub within : place ≤ max size quote
    pub least : 7 ≤ number
    pub most : number ≤ 9

  abbrev pub Stands : Symbol → Type 0
  Stands (End place) = EndsAt place.0
  Stands (Byte b next) = GoesOn next
  Stands (Reference start end next) = RefersTo start end next
  Stands (Faulty fault place) = FaultsAt (fault_number fault) place.0

-- the place of the open quote, 0 for none
abbrev pub quote_of : Mode → ℕ
quote_of Plain = 0
quote_of (Quoted quote) = quote.0

right_false : (a b : Bool) → (a || b) ≡ false → b ≡ false
right_false false b e = e
right_false true b e = cc

module _ (text : List ℕ) (flags : ℕ) (mode : Mode) (at : ℕ) (a : at ≤ length text) where
  abbrev S : Symbol → Type 0
  S = Stands (length text) at (quote_of mode)

  bad : S (faulty BadCode at)
  bad = omega arith

  coded_stands : S (coded (code (get_or text (at + 1) 0)) at (at + 2))
  unfolding coded
  coded_stands = go (code (get_or text (at + 1) 0)) refl
    where
      go : (value : Option ℕ) → code (get_or text (at + 1) 0) ≡ value → S (coded value at (at + 2))
      go (Some value) e = let n = (uncoded e).0 in omega (arith, inside text (at + 1) (omega arith))
      go None e = bad

  topped_code_stands : S (topped_code text at)
  unfolding coded topped_code
  topped_code_stands = either S (eqb (get_or text (at + 3) 0) 33) (λ _. bad) (λ _. go (code (get_or text (at + 3) 0)) refl)
    where
      go : (value : Option ℕ) → code (get_or text (at + 3) 0) ≡ value → S (coded (option_map topped value) at (at + 4))
      go (Some value) e = let n = (uncoded e).0 in omega (arith, inside text (at + 3) (omega arith))
      go None e = bad

  topped_stands : S (topped_symbol text flags mode at)
  unfolding topped_symbol
  topped_stands =
      let c = get_or text (at + 2) 0 in
      either S (ends c || (ending_space flags mode c || (eqb c 60 || eqb c 34))) (λ _. bad)
      (λ e. either S (eqb c 124) (λ _. topped_code_stands)
      (λ _. omega (arith, inside text (at + 2) (not_zero c (left_false (ends c) _ e)))))

  barred_stands : S (barred text flags mode at)
  unfolding barred
  barred_stands = either S (eqb (get_or text (at + 1) 0) 33) (λ _. topped_stands) (λ _. coded_stands)

  referred_stands : S (referred text at)
  unfolding referred
  referred_stands =
      let run = run_of name_byte (drop (at + 1) text) in
      either S (ltb 0 run && eqb (get_or text (at + 1 + run) 0) 62)
      (λ e.
      let both = (and-eq-true_iff (ltb 0 run) _).0 e in
      let long = ltb-true 0 run both.0 in
      let closes = eqb-true (get_or text (at + 1 + run) 0) 62 both.1 in
      omega (arith, inside text (at + 1 + run) (omega arith)))
      (λ _. omega arith)

  closed_stands : at + 1 ≤ length text → S (closed text flags (at + 1))
  unfolding closed
  closed_stands h =
      let end = at + 1 + spaces (drop (at + 1) text) in
      let far : end ≤ length text = passed_within space text (at + 1) h in
      either S (space_ends flags)
      (λ _. either S (ends (get_or text (at + 1) 0) || eqb (get_or text (at + 1) 0) 32) (λ _. omega arith) (λ _. omega arith))
      (λ _. either S (ends (get_or text end 0)) (λ _. omega arith) (λ _. omega arith))

  plain_stands : at < length text → S (Byte (get_or text at 0) (at + 1))
  plain_stands h = omega arith

  quoted_stands : at < length text → S (quoted_other text flags at)
  unfolding quoted_other
  quoted_stands h =
      either S (eqb (get_or text at 0) 34)
      (λ _. either S (eqb (get_or text (at + 1) 0) 34)
      (λ second.
      let e = eqb-true (get_or text (at + 1) 0) 34 second in
      omega (arith, inside text (at + 1) (omega arith)))
      (λ _. closed_stands (omega arith)))
      (λ _. plain_stands h)

  active_stands : (other : Symbol) → S other → S (active text flags mode at other)
  unfolding active
  active_stands other o =
      either S (eqb (get_or text at 0) 124 && not (bar_plain flags)) (λ _. barred_stands)
      (λ _. either S (eqb (get_or text at 0) 60) (λ _. referred_stands) (λ _. o))

  other_stands : (m : Mode) → at < length text → S (other text flags m at)
  other_stands Plain h = plain_stands h
  other_stands (Quoted quote) h = quoted_stands h

  end_stands : (m : Mode) → quote_of m ≤ quote_of mode → S (at_end m at)
  end_stands Plain q = omega arith
  end_stands (Quoted quote) q = omega arith

  -- by what the symbol is: `EndsAt`, `GoesOn`, `RefersTo` or `FaultsAt`
  pub symbol_stands : {s : Symbol} → symbol_at text flags mode at ≡ s → Stands (length text) at (quote_of mode) s
  symbol_stands e =
      let c = get_or text at 0 in
      subst S (sym (symbol_tested text flags mode at) ∙ e)
      (either S (ends c) (λ _. end_stands mode (omega arith))
      (λ n. either S (ending_space flags mode c) (λ _. omega arith)
      (λ _. active_stands _ (other_stands mode (inside text at (not_zero c n))))))

-- the first symbol and an open quote stand inside the text
pub first_stands : (text : List ℕ) (flags : ℕ) → (first_at text flags ≤ length text) × (quote_of (mode_of text flags) ≤ length text)
unfolding first_at mode_of
first_stands text flags = go (quote_opens text flags) refl
  where
    go : (b : Bool) → quote_opens text flags ≡ b
        → (cond b (spaces text + 1) (spaces text) ≤ length text) × (quote_of (cond b (Quoted (record { 0 = spaces text })) Plain) ≤ length text)
    go true e =
        let quote = eqb-true (get_or text (spaces text) 0) 34 ((and-eq-true_iff (eqb (get_or text (spaces text) 0) 34) _).0 e).0 in
        let h = inside text (spaces text) (omega arith) in
        (omega (arith, h), omega (arith, h))
    go false e = (omega (arith, run_short space text), omega arith)
