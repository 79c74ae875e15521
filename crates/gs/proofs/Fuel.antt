-- Enough fuel gives the same trace: the number that only lets the reading end counts for nothing once it is above the bytes left.
use mathlib.Core.List.{List}
use mathlib.Core.Path.{◌≡◌, refl, ap}
use mathlib.Core.Bool.{true}
use Prim.Native.Nat.{ℕ, zero, suc, ◌+◌, ◌-◌, ◌≤◌, ◌<◌}
use native.Mathlib.Omega.{arith}
use lib.ListN.{length, take, drop}
use Rattle.paper.specs.Traces.{Trace, gives}
use Rattle.reader.specs.Reading.{reading, no_limit}
use Rattle.variables.specs.Names.{Meaning}
use Rattle.symbols.specs.Symbols.{symbol_at, first_at, mode_of}
use Rattle.gs.specs.Readings.{Expand, content_gives, symbol_gives, symbols_from, whole_text}
use Rattle.symbols.specs.declared.forms.Mode.{Mode}
use Rattle.symbols.specs.declared.forms.Symbol.{Symbol}
use Rattle.symbols.specs.declared.forms.Symbol.TheVariants.{End, Byte, Reference as Names, Faulty}
use Rattle.symbols.proofs.Places.{Stands, quote_of, symbol_stands, first_stands}

module _ (names : List ℕ → Meaning) (expand : Expand) (text : List ℕ) (flags : ℕ) where
  module _ (mode : Mode) where
    -- a symbol goes on behind its place, and only there
    same_rest : (at : ℕ) (s : Symbol) (f g : ℕ → Trace) → Stands (length text) at (quote_of mode) s
        → ((next : ℕ) → at < next → next ≤ length text → f next ≡ g next)
        → symbol_gives names expand text at s f ≡ symbol_gives names expand text at s g
    unfolding symbol_gives
    same_rest at (End end) f g s h = refl
    same_rest at (Byte b next) f g s h = ap (gives b) (h next s.forward s.within)
    same_rest at (Names start end next) f g s h =
        let name = take (end - start) (drop start text) in
        ap (content_gives names expand (reading name true no_limit) name at) (h next (omega (arith, s.begins, s.long, s.behind)) s.within)
    same_rest at (Faulty fault place) f g s h = refl

    pub enough_fuel : (fuel fuel' at : ℕ) → at ≤ length text → length text < at + fuel → length text < at + fuel'
        → symbols_from names fuel expand text flags mode at ≡ symbols_from names fuel' expand text flags mode at
    unfolding symbols_from
    enough_fuel zero g at h a b = absurd (omega arith)
    enough_fuel (suc f) zero at h a b = absurd (omega arith)
    enough_fuel (suc f) (suc g) at h a b =
        same_rest at (symbol_at text flags mode at) (symbols_from names f expand text flags mode) (symbols_from names g expand text flags mode)
        (symbol_stands text flags mode at h refl)
        (λ next forward within. enough_fuel f g next within (omega arith) (omega arith))

  -- so a whole text may be read with any larger number
  pub whole_fuel : (fuel : ℕ) → length text < fuel
      → whole_text names expand text flags ≡ symbols_from names fuel expand text flags (mode_of text flags) (first_at text flags)
  unfolding whole_text
  whole_fuel fuel h =
      enough_fuel (mode_of text flags) (suc (length text)) fuel (first_at text flags) (first_stands text flags).0 (omega arith) (omega arith)
