-- The reading of a text as a trace, over what names mean.
use Rattle.std.specs.Prelude.{true, cond, List, [], ◌∷◌, ℕ, zero, suc, ◌-◌, eqb, length, take, drop, Result, Ok, Err}
use Rattle.paper.specs.Refusals.{too_big, over_code, refusal_number}
use Rattle.paper.specs.declared.refusals.Refused.{Refused}
use Rattle.paper.specs.Traces.{Trace, ended, faults, gives, asks, spends, enters}
use Rattle.paper.specs.declared.faults.Fault.TheVariants.{TooBig, UnknownName, TooDeep, CodeOver255}
use Rattle.forms.specs.Calls.{decimal_of}
use Rattle.reader.specs.Reading.{reading, no_limit}
use Rattle.reader.specs.declared.Number.{Number}
use Rattle.variables.specs.Names.{Meaning, unknown, string_of, integer_of, macro_of}
use Rattle.symbols.specs.Symbols.{symbol_at, first_at, mode_of}
use Rattle.symbols.specs.declared.forms.Mode.{Mode}
use Rattle.symbols.specs.declared.forms.Symbol.{Symbol}
use Rattle.symbols.specs.declared.forms.Symbol.TheVariants.{End, Byte, Reference as Names, Faulty}

-- bytes given one behind the other
abbrev pub gives_all : List ℕ → Trace → Trace
gives_all [] rest = rest
gives_all (b ∷ bs) rest = gives b (gives_all bs rest)

-- the outer text has depth 0, and in a text of this depth no macro is named
abbrev pub deepest : ℕ
deepest = 16

-- what a macro's value gives, where its "<" stands at a place of the text that names it
abbrev pub Expand : Type 0
Expand = List ℕ → ℕ → List ℕ → Trace → Trace

-- a name: unknown is refused; what it means is given for one look-up
unfoldable pub name_gives : Expand → Meaning → List ℕ → ℕ → Trace → Trace
name_gives expand unknown name place rest = faults UnknownName place
name_gives expand (string_of bytes) name place rest = spends place (gives_all bytes rest)
name_gives expand (integer_of value) name place rest = spends place (gives_all (decimal_of value) rest)
name_gives expand (macro_of value) name place rest = expand name place value rest

module _ (names : List ℕ → Meaning) where
  -- a reference's content: a value gives one byte, and over 255 it is refused; too big is refused; any other refusal makes it a name
  unfoldable pub content_gives : Expand → Result Number Refused → List ℕ → ℕ → Trace → Trace
  content_gives expand (Ok n) name place rest = cond (over_code n.value) (faults CodeOver255 place) (gives n.value rest)
  content_gives expand (Err r) name place rest =
      let asked = asks name (name_gives expand (names name) name place rest) in
      cond (eqb (refusal_number r.why) too_big) (faults TooBig place) asked

  -- the trace from a symbol on
  unfoldable pub symbol_gives : Expand → List ℕ → ℕ → Symbol → (ℕ → Trace) → Trace
  symbol_gives expand text at (End end) rest = ended end.0
  symbol_gives expand text at (Byte byte next) rest = gives byte (rest next)
  symbol_gives expand text at (Names start end next) rest =
      let name = take (end - start) (drop start text) in
      content_gives expand (reading name true no_limit) name at (rest next)
  symbol_gives expand text at (Faulty fault place) rest = faults fault place.0

  -- symbol by symbol. The first number is only there to let the definition end: each symbol takes a byte at least
  unfoldable pub symbols_from : ℕ → Expand → List ℕ → ℕ → Mode → ℕ → Trace
  symbols_from zero expand text flags mode at = ended at
  symbols_from (suc more) expand text flags mode at =
      let rest = symbols_from more expand text flags mode in
      symbol_gives expand text at (symbol_at text flags mode at) rest

  -- a whole text: leading spaces, an opening quote, then its symbols
  unfoldable pub whole_text : Expand → List ℕ → ℕ → Trace
  whole_text expand text flags = symbols_from (suc (length text)) expand text flags (mode_of text flags) (first_at text flags)

  -- a macro's value is a text of its own, without flags, one level deeper; with no level left none is named
  unfoldable pub expands : ℕ → Expand
  expands zero name place value rest = faults TooDeep place
  expands (suc levels) name place value rest =
      spends place (enters (record { name = name; place = place }) (whole_text (expands levels) value 0) rest)

  -- a text at a depth
  abbrev pub read_at : ℕ → List ℕ → ℕ → Trace
  read_at depth text flags = whole_text (expands (deepest - depth)) text flags
