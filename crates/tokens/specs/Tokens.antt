-- Tokens: an operator, a number, a name, a bracket, longest first, the spaces before each ignored.
use Rattle.std.specs.Prelude.{Bool, false, cond, ◌||◌, List, ℕ, ◌+◌, eqb, get_or, take, drop, Result, Ok, Err}
use Rattle.paper.specs.Bytes.{among, run_of, spaces, ends, letter, word_byte}
use Rattle.paper.specs.Texts.{bytes}
use Rattle.paper.specs.Refusals.{no_digit, bad_base, refusal_number}
use Rattle.paper.specs.declared.refusals.Refusal.{Refusal}
use Rattle.paper.specs.declared.refusals.Refused.{Refused}
use Rattle.paper.specs.declared.faults.Fault.{Fault}
use Rattle.paper.specs.declared.faults.Fault.TheVariants.{NoDigit, BadBase, TooBig}
use Rattle.reader.specs.Reading.{no_limit, reading}
use Rattle.reader.specs.declared.Number.{Number as Read}
use Rattle.records.specs.Records.{same_bytes}
use Rattle.arithmetic.specs.declared.operators.Operator.TheVariants.{Not, Product, Sum, Relation, And, Either}
use Rattle.arithmetic.specs.declared.operators.Product.TheVariants.{Times, Over, Mod}
use Rattle.arithmetic.specs.declared.operators.Sum.TheVariants.{Plus, Minus}
use Rattle.arithmetic.specs.declared.operators.Relation.TheVariants.{Equal, Unequal, Less, Greater, AtMost, AtLeast, ShiftLeft, ShiftRight, ShiftRightUnsigned}
use Rattle.arithmetic.specs.declared.operators.Either.TheVariants.{Or, Eor}
use Rattle.tokens.specs.declared.Token.{Token}
use Rattle.tokens.specs.declared.Token.TheVariants.{End, Operator as Operates, Number, FaultyNumber, Name, Open, Close, Strange}

-- a token with its place, and the first place behind it
pub record Lexeme : Type 0 where
  pub token : Token
  pub place : ℕ
  pub next : ℕ

-- a token of so many bytes
abbrev pub lexeme : Token → ℕ → ℕ → Lexeme
lexeme token at size = record { token = token; place = at; next = at + size }

-- MOD, AND, OR, EOR, NOT (capitals) are operators; every other word is a name
unfoldable pub word_token : List ℕ → Token
word_token word =
    cond (same_bytes (bytes "MOD") word) (Operates (Product Mod))
    (cond (same_bytes (bytes "AND") word) (Operates And)
    (cond (same_bytes (bytes "OR") word) (Operates (Either Or))
    (cond (same_bytes (bytes "EOR") word) (Operates (Either Eor))
    (cond (same_bytes (bytes "NOT") word) (Operates Not) Name))))

abbrev pub word_at : List ℕ → ℕ → Lexeme
word_at text at =
    let size = run_of word_byte (drop at text) in
    lexeme (word_token (take size (drop at text))) at size

-- the fault that the reader's refusal of a number stands for: it has no other number here
unfoldable pub fault_of : Refusal → Fault
fault_of why = cond (eqb (refusal_number why) no_digit) NoDigit (cond (eqb (refusal_number why) bad_base) BadBase TooBig)

abbrev pub number_by : Result Read Refused → ℕ → Lexeme
number_by (Ok n) at = lexeme (Number n.value) at n.end.0
number_by (Err r) at = lexeme (FaultyNumber (fault_of r.why) (at + r.at.0)) at 0

-- a number is read as above, without whole or limit
abbrev pub number_at : List ℕ → ℕ → Lexeme
number_at text at = number_by (reading (drop at text) false no_limit) at

-- "(" ")" "*" "+" "-" "/" "="; any other byte starts no token
unfoldable pub single : ℕ → Token
single c =
    cond (eqb c 40) Open
    (cond (eqb c 41) Close
    (cond (eqb c 42) (Operates (Product Times))
    (cond (eqb c 43) (Operates (Sum Plus))
    (cond (eqb c 45) (Operates (Sum Minus))
    (cond (eqb c 47) (Operates (Product Over))
    (cond (eqb c 61) (Operates (Relation Equal)) Strange))))))

-- "<>" "<=" "<<" "<", by the byte behind "<"
unfoldable pub from_less : ℕ → ℕ → Lexeme
from_less at c =
    cond (eqb c 62) (lexeme (Operates (Relation Unequal)) at 2)
    (cond (eqb c 61) (lexeme (Operates (Relation AtMost)) at 2)
    (cond (eqb c 60) (lexeme (Operates (Relation ShiftLeft)) at 2)
    (lexeme (Operates (Relation Less)) at 1)))

-- ">=" ">>>" ">>" ">", by the two bytes behind ">"
unfoldable pub from_greater : ℕ → ℕ → ℕ → Lexeme
from_greater at c d =
    cond (eqb c 61) (lexeme (Operates (Relation AtLeast)) at 2)
    (cond (eqb c 62)
    (cond (eqb d 62) (lexeme (Operates (Relation ShiftRightUnsigned)) at 3) (lexeme (Operates (Relation ShiftRight)) at 2))
    (lexeme (Operates (Relation Greater)) at 1))

unfoldable pub symbol_at : List ℕ → ℕ → Lexeme
symbol_at text at =
    let c = get_or text at 0 in
    cond (eqb c 60) (from_less at (get_or text (at + 1) 0))
    (cond (eqb c 62) (from_greater at (get_or text (at + 1) 0) (get_or text (at + 2) 0)) (lexeme (single c) at 1))

-- a number starts with "&" or a decimal digit
abbrev pub numeral : ℕ → Bool
numeral c = eqb c 38 || among 48 57 c

-- the token that starts at a place which no space stands at
unfoldable pub starting_at : List ℕ → ℕ → Lexeme
starting_at text at =
    let c = get_or text at 0 in
    let word = word_at text at in
    let number = number_at text at in
    let symbol = symbol_at text at in
    cond (ends c) (lexeme End at 0) (cond (letter c) word (cond (numeral c) number symbol))

-- the token behind a place
abbrev pub token_at : List ℕ → ℕ → Lexeme
token_at text at = starting_at text (at + spaces (drop at text))
