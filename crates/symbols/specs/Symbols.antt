-- One symbol of a text: where the text ends, a byte, a reference, or a fault. Past the slice's end stands a zero, which ends the text
-- as the slice's end does.
use Rattle.std.specs.Prelude.{Bool, false, cond, not, ◌&&◌, ◌||◌, Option, Some, None, List, ℕ, ◌+◌, ◌-◌, ltb, eqb, get_or, drop}
use Rattle.std.specs.Option.{option_map}
use Rattle.paper.specs.Bytes.{run_of, spaces, among, ends, name_byte}
use Rattle.paper.specs.declared.faults.Fault.{Fault}
use Rattle.paper.specs.declared.faults.Fault.TheVariants.{BadCode, BadString, BadReference}
use Rattle.symbols.specs.Flags.{space_ends, bar_plain, quote_plain}
use Rattle.symbols.specs.declared.forms.Mode.{Mode}
use Rattle.symbols.specs.declared.forms.Mode.TheVariants.{Plain, Quoted}
use Rattle.symbols.specs.declared.forms.Symbol.{Symbol}
use Rattle.symbols.specs.declared.forms.Symbol.TheVariants.{End, Byte, Reference, Faulty}

-- the code behind "|", if it is one. "@" is 0; letters 1 to 26; "[" "{" 27; "\" 28; "]" "}" 29; "^" "~" 30; "_" "'" 31; "?" 127; "|", "<"
-- and the quote stand for themselves
unfoldable pub punctuation : ℕ → Option ℕ
punctuation c =
    cond (eqb c 91 || eqb c 123) (Some 27)
    (cond (eqb c 92) (Some 28)
    (cond (eqb c 93 || eqb c 125) (Some 29)
    (cond (eqb c 94 || eqb c 126) (Some 30)
    (cond (eqb c 95 || eqb c 39) (Some 31)
    (cond (eqb c 63) (Some 127)
    (cond (eqb c 124 || (eqb c 60 || eqb c 34)) (Some c) None))))))

unfoldable pub code : ℕ → Option ℕ
code c = cond (among 64 90 c) (Some (c - 64)) (cond (among 97 122 c) (Some (c - 96)) (punctuation c))

abbrev pub faulty : Fault → ℕ → Symbol
faulty fault place = Faulty fault (record { 0 = place })

-- what a code makes: its byte, and the place behind it
unfoldable pub coded : Option ℕ → ℕ → ℕ → Symbol
coded (Some value) at next = Byte value next
coded None at next = faulty BadCode at

-- "|!" sets the top bit of the next character
abbrev pub topped : ℕ → ℕ
topped c = cond (ltb c 128) (c + 128) c

-- "|!" and a "|" code that is no other "|!"
unfoldable pub topped_code : List ℕ → ℕ → Symbol
topped_code text at =
    let c = get_or text (at + 3) 0 in
    let made = coded (option_map topped (code c)) at (at + 4) in
    cond (eqb c 33) (faulty BadCode at) made

-- a space that ends the text
abbrev pub ending_space : ℕ → Mode → ℕ → Bool
ending_space flags Plain c = space_ends flags && eqb c 32
ending_space flags (Quoted quote) c = false

-- behind "|!" the end, a bare "<" and a quote are bad
unfoldable pub topped_symbol : List ℕ → ℕ → Mode → ℕ → Symbol
topped_symbol text flags mode at =
    let c = get_or text (at + 2) 0 in
    let inner = topped_code text at in
    cond (ends c || (ending_space flags mode c || (eqb c 60 || eqb c 34))) (faulty BadCode at)
    (cond (eqb c 124) inner (Byte (topped c) (at + 3)))

-- "|" and what is behind it; the place of a fault is the symbol's first "|"
unfoldable pub barred : List ℕ → ℕ → Mode → ℕ → Symbol
barred text flags mode at =
    let top = topped_symbol text flags mode at in
    cond (eqb (get_or text (at + 1) 0) 33) top (coded (code (get_or text (at + 1) 0)) at (at + 2))

-- "<", one or more bytes each allowed in a name, ">"; otherwise a bad one
unfoldable pub referred : List ℕ → ℕ → Symbol
referred text at =
    let run = run_of name_byte (drop (at + 1) text) in
    cond (ltb 0 run && eqb (get_or text (at + 1 + run) 0) 62) (Reference (at + 1) (at + 1 + run) (at + 2 + run)) (faulty BadReference at)

-- behind the closing quote: with bit 29 a space or the end must follow; without it spaces are skipped and the end must follow
unfoldable pub closed : List ℕ → ℕ → ℕ → Symbol
closed text flags behind =
    let end = behind + spaces (drop behind text) in
    cond (space_ends flags)
    (cond (ends (get_or text behind 0) || eqb (get_or text behind 0) 32) (End (record { 0 = behind })) (faulty BadString behind))
    (cond (ends (get_or text end 0)) (End (record { 0 = end })) (faulty BadString end))

-- a byte that is no symbol of another kind
abbrev pub plain_symbol : ℕ → ℕ → Symbol
plain_symbol c at = Byte c (at + 1)

-- the symbols of every text: codes, read before quotes are, and references
unfoldable pub active : List ℕ → ℕ → Mode → ℕ → Symbol → Symbol
active text flags mode at other =
    let code = barred text flags mode at in
    let reference = referred text at in
    cond (eqb (get_or text at 0) 124 && not (bar_plain flags)) code (cond (eqb (get_or text at 0) 60) reference other)

-- in a quoted string `""` is one quote, a single quote closes it, and spaces never end it; an open quote is met at the text's end
unfoldable pub quoted_other : List ℕ → ℕ → ℕ → Symbol
quoted_other text flags at =
    let close = closed text flags (at + 1) in
    cond (eqb (get_or text at 0) 34) (cond (eqb (get_or text (at + 1) 0) 34) (Byte 34 (at + 2)) close) (plain_symbol (get_or text at 0) at)

unfoldable pub symbol_at : List ℕ → ℕ → Mode → ℕ → Symbol
symbol_at text flags Plain at =
    let other = active text flags Plain at (plain_symbol (get_or text at 0) at) in
    cond (ends (get_or text at 0) || ending_space flags Plain (get_or text at 0)) (End (record { 0 = at })) other
symbol_at text flags (Quoted quote) at =
    let other = active text flags (Quoted quote) at (quoted_other text flags at) in
    cond (ends (get_or text at 0)) (faulty BadString quote.0) other

-- leading spaces are skipped; a quote standing next opens a quoted string unless bit 31 is set
abbrev pub quote_opens : List ℕ → ℕ → Bool
quote_opens text flags = eqb (get_or text (spaces text) 0) 34 && not (quote_plain flags)

-- the place of the first symbol
unfoldable pub first_at : List ℕ → ℕ → ℕ
first_at text flags = cond (quote_opens text flags) (spaces text + 1) (spaces text)

-- how the text is read
unfoldable pub mode_of : List ℕ → ℕ → Mode
mode_of text flags = cond (quote_opens text flags) (Quoted (record { 0 = spaces text })) Plain
