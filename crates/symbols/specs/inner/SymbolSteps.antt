-- What the functions that find one symbol give, and the bytes that stand for themselves.
use Rattle.std.specs.Prelude.{◌≡◌, Bool, cond, not, ◌&&◌, ◌||◌, List, ℕ, ltb, eqb, get_or}
use Rattle.paper.specs.Bytes.{ends}
use Rattle.paper.specs.declared.faults.Fault.TheVariants.{BadString}
use Rattle.symbols.specs.Flags.{has}
use Rattle.symbols.specs.Symbols.{faulty, ending_space, plain_symbol, quoted_other}
use Rattle.symbols.specs.declared.forms.Mode.{Mode}
use Rattle.symbols.specs.declared.forms.Mode.TheVariants.{Plain, Quoted}
use Rattle.symbols.specs.declared.forms.Symbol.{Symbol}
use Rattle.symbols.specs.declared.forms.Symbol.TheVariants.{End}

-- a byte above the quote that is no "<" and no "|"
abbrev pub unmarked : ℕ → Bool
unmarked c = ltb 34 c && (not (eqb c 60) && not (eqb c 124))

-- an end or a space
abbrev pub stops : ℕ → Bool
stops c = ends c || eqb c 32

-- a mark that no bit makes an ordinary byte
abbrev pub marks : ℕ → ℕ → ℕ → ℕ → Bool
marks mark flags bit c = eqb c mark && not (has flags bit)

-- a byte that "|!" can not stand before
abbrev pub bare : ℕ → Mode → ℕ → Bool
bare flags mode c = ends c || (ending_space flags mode c || (eqb c 60 || eqb c 34))

-- the end of a quoted string at a place, or the fault of one that goes on there
abbrev pub ended_at : Bool → ℕ → Symbol
ended_at ends at = cond ends (End (record { 0 = at })) (faulty BadString at)

-- the symbol of the text's end
abbrev pub at_end : Mode → ℕ → Symbol
at_end Plain at = End (record { 0 = at })
at_end (Quoted quote) at = faulty BadString quote.0

-- a byte that is no end and starts neither a code nor a reference
abbrev pub other : List ℕ → ℕ → Mode → ℕ → Symbol
other text flags Plain at = plain_symbol (get_or text at 0) at
other text flags (Quoted quote) at = quoted_other text flags at

-- a byte that stands for itself in every text, unless it is a space that ends the text
pub record Ordinary (c : ℕ) : Type 0 where
  pub no_zero : c ≡ 0 → ⊥
  pub no_line : c ≡ 10 → ⊥
  pub no_return : c ≡ 13 → ⊥
  pub no_quote : c ≡ 34 → ⊥
  pub no_reference : c ≡ 60 → ⊥
  pub no_bar : c ≡ 124 → ⊥
