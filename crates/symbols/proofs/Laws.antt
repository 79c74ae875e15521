-- What the proofs share: bytes that have no code, the symbol at a place as one row of tests, and ordinary bytes.
use mathlib.Core.Bool.{Bool, true, false, cond, ◌||◌, and-false, and-eq-true_iff}
use mathlib.Core.List.{List}
use mathlib.Core.Path.{◌≡◌, refl, ap}
use Prim.Native.Nat.{ℕ, ◌+◌}
use Rattle.std.specs.Prelude.{Some}
use native.Mathlib.Omega.{arith}
use borrow.Author.Tests.{ltb-true, eqb-false, not-true, ne_eqb}
use lib.Dec.{ltb, eqb}
use lib.ListN.{get_or}
use Rattle.paper.specs.Bytes.{ends}
use Rattle.symbols.specs.declared.forms.Mode.{Mode}
use Rattle.symbols.specs.declared.forms.Mode.TheVariants.{Plain, Quoted}
use Rattle.symbols.specs.declared.forms.Symbol.{Symbol}
use Rattle.symbols.specs.declared.forms.Symbol.TheVariants.{End, Byte}
use Rattle.symbols.specs.Flags.{space_ends}
use Rattle.symbols.specs.inner.SymbolSteps.{unmarked, at_end, other, Ordinary}
use Rattle.symbols.specs.Symbols.{punctuation, code, ending_space, active, plain_symbol, quoted_other, symbol_at}

pub left_false : (a b : Bool) → (a || b) ≡ false → a ≡ false
left_false false b e = refl
left_false true b e = e

-- the zero past the end and "!" have no code
pub uncoded : {c value : ℕ} → code c ≡ Some value → (c ≡ 0 → ⊥) × (c ≡ 33 → ⊥)
unfolding code punctuation
uncoded h = (λ e. cc (ap code e), λ e. cc (ap code e))

-- the tests of `symbol_at` in a row
abbrev pub tested : List ℕ → ℕ → Mode → ℕ → Symbol
tested text flags mode at =
    let start = active text flags mode at (other text flags mode at) in
    cond (ends (get_or text at 0)) (at_end mode at) (cond (ending_space flags mode (get_or text at 0)) (End (record { 0 = at })) start)

either_test : {A : Type 0} (a b : Bool) (x y : A) → cond (a || b) x y ≡ cond a x (cond b x y)
either_test true b x y = refl
either_test false b x y = refl

pub symbol_tested : (text : List ℕ) (flags : ℕ) (mode : Mode) (at : ℕ) → symbol_at text flags mode at ≡ tested text flags mode at
unfolding symbol_at
symbol_tested text flags Plain at = either_test (ends (get_or text at 0)) (ending_space flags Plain (get_or text at 0)) _ _
symbol_tested text flags (Quoted quote) at = refl

module _ (text : List ℕ) (flags at : ℕ) where
  other_byte : (mode : Mode) → (get_or text at 0 ≡ 34 → ⊥) → other text flags mode at ≡ plain_symbol (get_or text at 0) at
  unfolding quoted_other
  other_byte Plain n = refl
  other_byte (Quoted quote) n = rw (ne_eqb (get_or text at 0) 34 n)

  pub ordinary_byte :
      (mode : Mode) → Ordinary (get_or text at 0) → ending_space flags mode (get_or text at 0) ≡ false →
      symbol_at text flags mode at ≡ Byte (get_or text at 0) (at + 1)
  unfolding active
  ordinary_byte mode o s =
      let c = get_or text at 0 in
      rw (
        symbol_tested,
        ne_eqb c 0 o.no_zero,
        ne_eqb c 10 o.no_line,
        ne_eqb c 13 o.no_return,
        s,
        ne_eqb c 124 o.no_bar,
        ne_eqb c 60 o.no_reference,
        other_byte mode o.no_quote,
      )

no_space : (flags : ℕ) (mode : Mode) (c : ℕ) → (c ≡ 32 → ⊥) → ending_space flags mode c ≡ false
no_space flags Plain c n = rw (ne_eqb c 32 n) (and-false (space_ends flags))
no_space flags (Quoted quote) c n = refl

pub unmarked_byte :
    (text : List ℕ) (flags : ℕ) (mode : Mode) (at : ℕ) → unmarked (get_or text at 0) ≡ true →
    symbol_at text flags mode at ≡ Byte (get_or text at 0) (at + 1)
unmarked_byte text flags mode at u =
    let c = get_or text at 0 in
    let above = (and-eq-true_iff (ltb 34 c) _).0 u in
    let marks = (and-eq-true_iff _ _).0 above.1 in
    let large = ltb-true 34 c above.0 in
    ordinary_byte text flags at mode
    (record {
      no_zero = λ e. omega arith;
      no_line = λ e. omega arith;
      no_return = λ e. omega arith;
      no_quote = λ e. omega arith;
      no_reference = eqb-false c 60 (not-true (eqb c 60) marks.0);
      no_bar = eqb-false c 124 (not-true (eqb c 124) marks.1);
    })
    (no_space flags mode c (λ e. omega arith))
