-- What is promised of a number that a text refers to: it is one byte up to 255, and refused by 21 over that, in outer texts and in macros.
use Rattle.std.specs.Prelude.{◌≡◌, true, List, [], ◌∷◌, ◌++◌, ℕ, suc, ◌-◌, ◌≤◌, ◌<◌, length, take, drop}
use Rattle.paper.specs.Answers.{in_text, refusal}
use Rattle.paper.specs.Bytes.{run_of, name_byte}
use Rattle.paper.specs.Refusals.{code_over_255, greatest_code}
use Rattle.paper.specs.Traces.{faults, gives, asks}
use Rattle.paper.specs.declared.faults.Fault.TheVariants.{TooBig, CodeOver255}
use Rattle.paper.specs.declared.Holder.{Holder}
use Rattle.paper.specs.declared.refusals.Refusal.{Refusal}
use Rattle.paper.specs.declared.refusals.Refusal.TheVariants as Refusals
use Rattle.reader.specs.Reading.{reading, refused, valued, no_limit}
use Rattle.records.specs.Records.{Entry}
use Rattle.records.specs.declared.kinds.Kind.TheVariants.{Macro}
use Rattle.variables.specs.Names.{Meaning}
use Rattle.variables.specs.Judgements.{good, judgement}
use Rattle.indexes.specs.Indexes.{Given, fits}
use Rattle.symbols.specs.Symbols.{symbol_at}
use Rattle.symbols.specs.declared.forms.Mode.{Mode}
use Rattle.symbols.specs.declared.forms.Symbol.TheVariants.{Reference}
use Rattle.gs.specs.Readings.{Expand, name_gives, symbols_from}
use Rattle.gs.specs.Translations.{Translation, translated_answer}
use Rattle.promises.specs.Allowed.{Translates}
use Rattle.promises.specs.TwoTables.{Held}

-- wherever a reading meets the reference, in a text of any depth, behind whatever stands before it, quoted or not, whatever names mean: one
-- byte, or a fault at its "<", and no look-up
abbrev pub Met : Type 0
Met =
    (names : List ℕ → Meaning) (expand : Expand) (text : List ℕ) (flags : ℕ) (mode : Mode) (more at start end next number behind : ℕ)
    → symbol_at text flags mode at ≡ Reference start end next → reading (take (end - start) (drop start text)) true no_limit ≡ valued number behind
    → let met = symbols_from names (suc more) expand text flags mode at in
    (number ≤ greatest_code → met ≡ gives number (symbols_from names more expand text flags mode next)) × (greatest_code < number → met ≡ faults CodeOver255 at)

-- and where the reader refuses the content: by 4 a fault at its "<", otherwise it is a name
abbrev pub Unread : Type 0
Unread =
    (names : List ℕ → Meaning) (expand : Expand) (text : List ℕ) (flags : ℕ) (mode : Mode) (more at start end next : ℕ) (kept : Refusal) (place : ℕ)
    → let name = take (end - start) (drop start text) in
    symbol_at text flags mode at ≡ Reference start end next → reading name true no_limit ≡ refused kept place
    → let met = symbols_from names (suc more) expand text flags mode at in
    (kept ≡ Refusals.TooBig → met ≡ faults TooBig at)
    × ((kept ≡ Refusals.TooBig → ⊥) → met ≡ asks name (name_gives expand (names name) name at (symbols_from names more expand text flags mode next)))

-- one or more bytes each allowed in a name
pub record Content (content : List ℕ) : Type 0 where
  pub some : 0 < length content
  pub named : run_of name_byte content ≡ length content

-- a reference as a whole text: "<", its content, ">"
abbrev pub referring : List ℕ → List ℕ
referring content = 60 ∷ content ++ (62 ∷ [])

-- what that text gives for a number
pub record OneNumber (size number : ℕ) (out after : List ℕ) (r : Translation) : Type 0 where
  pub byte : number ≤ greatest_code → 1 ≤ length out
      → (translated_answer r ≡ record { number = 0; counted = in_text; place = size; need = 1; free = length out - 1 }) × (after ≡ number ∷ drop 1 out)
  pub over : greatest_code < number → (translated_answer r ≡ refusal code_over_255 in_text 0 (length out)) × (after ≡ out)

-- in whatever spelling, over any good tables, through any index that fits, with any flags and any allowance, 0 too
abbrev pub Alone : Type 0
Alone =
    (content farm house : List ℕ) (given : Given) (flags allowance number end : ℕ) (out after : List ℕ) (r : Translation)
    → Content content → reading content true no_limit ≡ valued number end
    → judgement (referring content) farm house ≡ good → fits given house ≡ true → Translates (referring content) farm house given flags allowance out r after
    → OneNumber (length (referring content)) number out after r

-- a text that names a macro whose value is such a reference: 21 too, at the outermost "<"
abbrev pub InAMacro : Type 0
InAMacro =
    (name content farm house : List ℕ) (given : Given) (flags allowance number end : ℕ) (kept : Refusal) (place : ℕ) (holder : Holder) (e : Entry) (out after : List ℕ) (r : Translation)
    → Content name → reading name true no_limit ≡ refused kept place → (kept ≡ Refusals.TooBig → ⊥) → Held farm house name holder e Macro
    → e.value ≡ referring content → Content content → reading content true no_limit ≡ valued number end → greatest_code < number
    → judgement (referring name) farm house ≡ good → fits given house ≡ true → 1 ≤ allowance → Translates (referring name) farm house given flags allowance out r after
    → (translated_answer r ≡ refusal code_over_255 in_text 0 (length out)) × (after ≡ out)
