-- That the public functions beside the eight operations and `look_up_value` have one answer too, each by its own contract as a caller learns it.
-- Those have it in their pages. `filter`'s `run` has it not: its contract leaves open what was read.
-- Not repeated here are the contract of `run_end`, which holds over every type that says what ends a run, and those of the `From`s: equations too.
use Rattle.std.specs.Prelude.{◌≡◌, List, ℕ, Option}
use Rattle.std.specs.Borrow.{Bor, MutBor}
use Rattle.indexes.specs.Indexes.{Given, given_as}
use Rattle.paper.proofs.allowance.cap.Reads as cap
use Rattle.paper.proofs.bytes.byte.Reads as byte
use Rattle.paper.proofs.bytes.among.Reads as among
use Rattle.paper.proofs.bytes.is_end.Reads as is_end
use Rattle.paper.proofs.bytes.is_name_byte.Reads as is_name_byte
use Rattle.paper.proofs.bytes.is_letter.Reads as is_letter
use Rattle.paper.proofs.bytes.is_word_byte.Reads as is_word_byte
use Rattle.paper.proofs.bytes.ByteKind.has.Reads as kind_has
use Rattle.paper.proofs.bytes.skip.Reads as skip
use Rattle.paper.proofs.faults.Fault.number.Reads as fault_number
use Rattle.paper.proofs.refusals.Refusal.number.Reads as refusal_number
use Rattle.paper.proofs.one_if.Reads as one_if
use Rattle.paper.proofs.layings.put_if.Reads as put_if
use Rattle.paper.proofs.layings.claim.Reads as claim
use Rattle.paper.proofs.inside.Inside.byte.Reads as byte_inside
use Rattle.paper.proofs.bits.Bits.has.Reads as bits_has
use Rattle.paper.proofs.bits.Bits.none.Reads as bits_none
use Rattle.paper.proofs.bits.Bits.insert.Reads as bits_insert
use Rattle.paper.specs.declared.inside.Inside.{Inside}
use Rattle.paper.specs.inner.Bits.{holds}
use Rattle.forms.proofs.calls.family_of.Reads as family_of
use Rattle.forms.proofs.counts.count_decimal.Reads as count_decimal
use Rattle.forms.proofs.forms.Base.shrink.Reads as base_shrink
use Rattle.forms.proofs.forms.Base.last_glyph.Reads as base_last_glyph
use Rattle.forms.proofs.forms.Width.bits.Reads as width_bits
use Rattle.forms.proofs.forms.Width.low_bits.Reads as width_low_bits
use Rattle.forms.proofs.size.number_in.Reads as number_in
use Rattle.numbers.proofs.signed_decimal.Reads as signed_decimal
use Rattle.calendar.proofs.moment_of.Reads as moment_of
use Rattle.records.proofs.part.Reads as part
use Rattle.records.proofs.name_at.Reads as name_at
use Rattle.records.proofs.next_place.Reads as next_place
use Rattle.records.proofs.variable_at.Reads as variable_at
use Rattle.records.proofs.is_shaped.Reads as is_shaped
use Rattle.records.proofs.names.key_of.Reads as key_of
use Rattle.records.proofs.names.same_name.Reads as same_name
use Rattle.records.proofs.names.comes_before.Reads as comes_before
use Rattle.records.proofs.kinds.Kind.number.Reads as kind_number
use Rattle.records.proofs.integers.pattern_of.Reads as pattern_of
use Rattle.variables.proofs.both.key_tables.Reads as key_tables
use Rattle.variables.proofs.both.Tables.value_of.Reads as value_of
use Rattle.variables.specs.declared.both.Tables.{Tables}
use Rattle.variables.proofs.keys.find.Reads as find
use Rattle.indexes.proofs.place_at.Reads as place_in_index
use Rattle.indexes.proofs.search.Reads as search_index
use Rattle.lookups.proofs.judge.Reads as judge
use Rattle.lookups.proofs.bytes_given.Reads as bytes_given
use Rattle.lookups.proofs.find.Reads as find_through
use Rattle.symbols.proofs.flags.Flags.of.Reads as flags_of
use Rattle.symbols.proofs.flags.Flags.none.Reads as flags_none
use Rattle.symbols.proofs.flags.Flags.has.Reads as flags_has
use Rattle.arithmetic.proofs.operators.Operator.level.Reads as level
use Rattle.arithmetic.proofs.operators.Level.number.Reads as level_number
use Rattle.arithmetic.proofs.operators.Operator.stands_alone.Reads as stands_alone
use Rattle.arithmetic.proofs.operators.Operator.divides.Reads as divides
use Rattle.arithmetic.proofs.values.unary.Reads as unary
use Rattle.arithmetic.proofs.values.binary.Reads as binary
use Rattle.symbols.proofs.symbols.symbol_at.Reads as symbol_at
use Rattle.symbols.proofs.symbols.open.Reads as open_text
use Rattle.symbols.proofs.bytes.is_ending_space.Reads as is_ending_space
use Rattle.runs.proofs.plain.plain_end.Reads as plain_end
use Rattle.runs.proofs.output.put.Reads as put
use Rattle.runs.proofs.output.copy.Reads as copy
use Rattle.references.proofs.resolve.Reads as resolve
use Rattle.tokens.proofs.token_at.Reads as token_at
use Rattle.parts.proofs.behind.operator_behind.Reads as operator_behind
use Rattle.parts.proofs.behind.binding_behind.Reads as binding_behind
use Rattle.parts.proofs.behind.end_behind.Reads as end_behind
use Rattle.parts.proofs.behind.up_to.Reads as up_to
use Rattle.parts.proofs.refused.Reads as refused_part
use Rattle.parts.proofs.too_deep.Reads as too_deep_part
use Rattle.parts.proofs.bad.Reads as bad_part
use Rattle.parts.proofs.Part.account.Reads as account_of
use Rattle.parts.proofs.moved_to.Reads as moved_to
use Rattle.parts.proofs.covered.Reads as covered_part
use Rattle.parts.proofs.joined.Reads as joined_part
use Rattle.leaves.proofs.number.Reads as leaf_number
use Rattle.leaves.proofs.named.Reads as leaf_named
use Rattle.filter.proofs.answer.Reads as answer
use Rattle.nosgoludd.proofs.conversions.nos_convert.Reads as nos_convert
use Rattle.nosgoludd.proofs.conversions.nos_convert_date.Reads as nos_convert_date
use Rattle.nosgoludd.proofs.readings.nos_read_unsigned.Reads as nos_read_unsigned
use Rattle.nosgoludd.proofs.checks.nos_check_table.Reads as nos_check_table
use Rattle.nosgoludd.proofs.buildings.nos_build_index.Reads as nos_build_index
use Rattle.nosgoludd.proofs.meanings.nos_look_up.Reads as nos_look_up
use Rattle.nosgoludd.proofs.translations.nos_translate.Reads as nos_translate
use Rattle.nosgoludd.proofs.evaluations.nos_evaluate.Reads as nos_evaluate

-- Of two calls, anywhere, that are given the same, whatever their callers learn, the same is seen. `Learnt` is a function's contract:
-- of the lifetimes, the arguments, the answer, and the parameters afterwards
pub record One {Lifetimes Arguments Answer After Given Seen : Type 0} (Learnt : Lifetimes → Arguments → Answer → After → Type 0)
    (given : Arguments → Given) (seen : Answer → After → Seen) : Type 0 where
  pub one : (κs κs' : Lifetimes) (a a' : Arguments) (r r' : Answer) (after after' : After) → given a ≡ given a'
      → Learnt κs a r after → Learnt κs' a' r' after' → seen r after ≡ seen r' after'

-- What is given, argument by argument: of one that is lent, to be read or to be written to, what it holds, wherever it lies; one that is
-- not, and the rest, as they are
abbrev pub lent : {X A B : Type 0} → (A → B) → Bor X × A → X × B
lent behind a = (a.0.now, behind a.1)

-- an index that may be lent
abbrev pub lent_index : {A B : Type 0} → (A → B) → Option (Bor (List ℕ)) × A → Given × B
lent_index behind a = (given_as a.0, behind a.1)

-- two tables that are lent as one: what each holds
abbrev pub lent_tables : {A B : Type 0} → (A → B) → Bor Tables × A → List ℕ × (List ℕ × B)
lent_tables behind a = (a.0.now.farm.now, (a.0.now.house.now, behind a.1))

-- a place inside a text that is lent: the text's bytes, and the place
abbrev pub lent_inside : {A B : Type 0} → (A → B) → Bor Inside × A → List ℕ × (ℕ × B)
lent_inside behind a = (a.0.now.text.now, (a.0.now.at, behind a.1))

abbrev pub lent_out : {X A B : Type 0} → (A → B) → MutBor X × A → X × B
lent_out behind a = (a.0.now, behind a.1)

abbrev pub plain : {X A B : Type 0} → (A → B) → X × A → X × B
plain behind a = (a.0, behind a.1)

abbrev pub rest : {A : Type 0} → A → A
rest a = a

-- What is seen: the answer; or, where a buffer is lent to be written to, what that holds afterwards too
abbrev pub answer_alone : {R S : Type 0} → R → S → R
answer_alone r after = r

abbrev pub answer_and : {R S : Type 0} → (S → MutBor (List ℕ)) → R → S → R × List ℕ
answer_and buffer r after = (r, (buffer after).now)

pub record Determined : Type 0 where
  -- paper
  pub cap : One cap.Learnt rest answer_alone
  pub byte : One byte.Learnt (lent rest) answer_alone
  pub among : One among.Learnt rest answer_alone
  pub is_end : One is_end.Learnt rest answer_alone
  pub is_name_byte : One is_name_byte.Learnt rest answer_alone
  pub is_letter : One is_letter.Learnt rest answer_alone
  pub is_word_byte : One is_word_byte.Learnt rest answer_alone
  pub kind_has : One kind_has.Learnt rest answer_alone
  pub skip : One skip.Learnt (plain (lent rest)) answer_alone
  pub fault_number : One fault_number.Learnt rest answer_alone
  pub refusal_number : One refusal_number.Learnt rest answer_alone
  pub one_if : One one_if.Learnt rest answer_alone
  pub put_if : One put_if.Learnt (plain (plain (plain (lent_out rest)))) (answer_and (λ (wanted, (byte, (at, (buf, _)))). buf))
  pub claim : One claim.Learnt (plain (plain (lent_out rest))) (answer_and (λ (characters, (terminated, (buf, _))). buf))
  -- sets of every size that 64 bits hold: what is seen of one is whether it has a number, whichever
  pub bits_none : (words : ℕ) (fits : _) (number : ℕ) → One (bits_none.Learnt words fits) rest (λ r after. holds r.words number)
  pub bits_has : (words : ℕ) (fits : _) → One (bits_has.Learnt words fits) (lent rest) answer_alone
  pub bits_insert : (words : ℕ) (fits : _) (other : ℕ) → One (bits_insert.Learnt words fits) (lent_out rest) (λ r (set, _). holds set.now.words other)
  pub byte_inside : One byte_inside.Learnt (lent_inside rest) answer_alone
  -- forms
  pub family_of : One family_of.Learnt rest answer_alone
  pub count_decimal : One count_decimal.Learnt rest answer_alone
  pub base_shrink : One base_shrink.Learnt rest answer_alone
  pub base_last_glyph : One base_last_glyph.Learnt rest answer_alone
  pub width_bits : One width_bits.Learnt rest answer_alone
  pub width_low_bits : One width_low_bits.Learnt rest answer_alone
  pub number_in : One number_in.Learnt rest answer_alone
  -- numbers
  pub signed_decimal : One signed_decimal.Learnt (plain (lent_out rest)) (answer_and (λ (value, (out, _)). out))
  -- calendar
  pub moment_of : One moment_of.Learnt rest answer_alone
  -- records: the answers of `part` and `name_at` are parts of the table, of which the bytes are seen
  pub part : One part.Learnt (lent rest) (λ r after. r.now)
  pub name_at : One name_at.Learnt (lent rest) (λ r after. r.now)
  pub next_place : One next_place.Learnt (lent rest) answer_alone
  pub variable_at : One variable_at.Learnt (plain (lent rest)) answer_alone
  pub is_shaped : One is_shaped.Learnt (lent rest) answer_alone
  pub key_of : One key_of.Learnt (lent rest) answer_alone
  pub same_name : One same_name.Learnt (lent (lent rest)) answer_alone
  pub comes_before : One comes_before.Learnt (lent (lent rest)) answer_alone
  pub kind_number : One kind_number.Learnt rest answer_alone
  pub pattern_of : One pattern_of.Learnt (lent rest) answer_alone
  -- variables: the answer of `value_of` is a part of a table too
  pub key_tables : One key_tables.Learnt (lent_tables (lent_out rest)) (answer_and (λ (tables, (keys, _)). keys))
  pub value_of : One value_of.Learnt (lent_tables rest) (λ r after. r.now)
  pub find : One find.Learnt (lent_tables (lent (lent rest))) answer_alone
  -- indexes
  pub place_in_index : One place_in_index.Learnt (lent rest) answer_alone
  pub search_index : One search_index.Learnt (lent (lent (lent rest))) answer_alone
  -- lookups: the answer of `bytes_given` is a part of the index
  pub judge :
      One judge.Learnt (lent_tables (lent_index (lent_out rest)))
      (answer_and (λ (tables, (index, (keys, _))). keys))
  pub bytes_given : One bytes_given.Learnt (lent_index rest) (λ r after. r.now)
  pub find_through : One find_through.Learnt (lent_tables (lent (lent (lent rest)))) answer_alone
  -- symbols
  pub symbol_at : One symbol_at.Learnt (lent rest) answer_alone
  pub open_text : One open_text.Learnt (lent rest) answer_alone
  pub is_ending_space : One is_ending_space.Learnt rest answer_alone
  pub flags_of : One flags_of.Learnt rest answer_alone
  pub flags_none : One flags_none.Learnt rest answer_alone
  pub flags_has : One flags_has.Learnt rest answer_alone
  -- runs
  pub plain_end : One plain_end.Learnt (lent rest) answer_alone
  pub put : One put.Learnt (plain (plain (lent_out rest))) (answer_and (λ (byte, (to, (out, _))). out))
  pub copy : One copy.Learnt (lent (plain (lent_out rest))) (answer_and (λ (given, (to, (out, _))). out))
  -- references
  pub resolve : One resolve.Learnt (lent (lent_tables (lent (lent rest)))) answer_alone
  -- arithmetic
  pub level : One level.Learnt rest answer_alone
  pub level_number : One level_number.Learnt rest answer_alone
  pub stands_alone : One stands_alone.Learnt rest answer_alone
  pub divides : One divides.Learnt rest answer_alone
  pub unary : One unary.Learnt rest answer_alone
  pub binary : One binary.Learnt rest answer_alone
  -- tokens
  pub token_at : One token_at.Learnt (lent rest) answer_alone
  -- parts
  pub operator_behind : One operator_behind.Learnt (lent rest) answer_alone
  pub binding_behind : One binding_behind.Learnt (lent rest) answer_alone
  pub end_behind : One end_behind.Learnt (lent rest) answer_alone
  pub up_to : One up_to.Learnt (lent rest) answer_alone
  pub refused_part : One refused_part.Learnt rest answer_alone
  pub too_deep_part : One too_deep_part.Learnt rest answer_alone
  pub bad_part : One bad_part.Learnt rest answer_alone
  pub moved_to : One moved_to.Learnt rest answer_alone
  pub account_of : One account_of.Learnt rest answer_alone
  pub covered_part : One covered_part.Learnt rest answer_alone
  pub joined_part : One joined_part.Learnt rest answer_alone
  -- leaves
  pub leaf_number : One leaf_number.Learnt rest answer_alone
  pub leaf_named : One leaf_named.Learnt (lent (lent_tables (lent rest))) answer_alone
  -- filter
  pub answer : One answer.Learnt (lent (lent_out rest)) (answer_and (λ (text, (out, _)). out))
  -- nosgoludd
  pub nos_convert : One nos_convert.Learnt (plain (plain (lent_out rest))) (answer_and (λ (call, (value, (buf, _))). buf))
  pub nos_convert_date : One nos_convert_date.Learnt (lent (lent (lent_out rest))) (answer_and (λ (time, (format, (buf, _))). buf))
  pub nos_read_unsigned : One nos_read_unsigned.Learnt (lent rest) answer_alone
  pub nos_check_table : One nos_check_table.Learnt (lent rest) answer_alone
  pub nos_build_index : One nos_build_index.Learnt (lent (lent_out rest)) (answer_and (λ (table, (out, _)). out))
  pub nos_look_up : One nos_look_up.Learnt (lent (lent (lent (lent rest)))) answer_alone
  pub nos_translate :
      One nos_translate.Learnt (lent (lent (lent (lent (plain (plain (plain (lent_out rest))))))))
      (answer_and (λ (text, (farm, (house, (index, (indexed, (flags, (allowance, (out, _)))))))). out))
  pub nos_evaluate : One nos_evaluate.Learnt (lent (lent (lent rest))) answer_alone
