-- Every public function beside the eight operations has one answer: its contract says it as a function of what is given.
use mathlib.Core.Path.{◌≡◌, refl, ap, ap₂, sym, ◌∙◌}
use mathlib.Core.Bool.{Bool, true, false, cond, not, ◌||◌}
use mathlib.Core.List.{[], ◌∷◌, ◌++◌}
use Prim.Native.Nat.{◌+◌, ◌*◌, ◌/◌, ◌%◌, ◌^◌, ◌<◌, ◌≤◌}
use borrow.Author.Tests.{ltb-true, ltb-false}
use lib.Dec.{eqb, ltb}
use lib.ListN.{length, take, drop, get_or, set}
use Rattle.std.specs.Prelude.{List, ℕ, Option, Some, None}
use Rattle.paper.specs.Bytes as Bytes
use Rattle.paper.specs.Traces.{allowed, fault_number}
use Rattle.paper.specs.Layings.{laying_of, converted_by}
use Rattle.paper.specs.inner.Bits.{holds}
use Rattle.paper.specs.inner.Claims.{claimed_in}
use Rattle.paper.proofs.Choice.{either}
use Rattle.forms.specs.Digits.{glyph, digit_count}
use Rattle.forms.specs.Strings.{radix, bits, Form}
use Rattle.forms.specs.Calls.{Described, unknown, known, described, decimal_of}
use Rattle.forms.specs.inner.Steps.{form_of, number_in}
use Rattle.forms.specs.declared.calls.Family.{Family}
use Rattle.forms.specs.declared.calls.Family.TheVariants as Families
use Rattle.forms.specs.declared.forms.Base.{Base}
use Rattle.forms.specs.declared.forms.Base.TheVariants.{Two, Ten, Sixteen}
use Rattle.numbers.specs.Conversions.{answer_of, buffer_of}
use Rattle.calendar.specs.Moments.{moment_at}
use Rattle.dates.specs.Conversions.{date_answer, date_buffer}
use Rattle.reader.specs.Reading.{reading}
use Rattle.records.specs.Records as Records
use Rattle.records.specs.Kinds.{kind_number, pattern, variable_at}
use Rattle.records.specs.inner.Keys.{key_of}
use Rattle.variables.specs.Tables.{checked}
use Rattle.variables.specs.Holdings.{part_of}
use Rattle.indexes.specs.Indexes.{given_by, fits}
use Rattle.indexes.specs.Buildings.{built, built_answer, index_after}
use Rattle.indexes.specs.inner.Halving.{place_in, searched, match_in}
use Rattle.lookups.specs.Lookups.{looked_up}
use Rattle.lookups.specs.inner.Through as Through
use Rattle.variables.specs.Judgements as Judgements
use Rattle.variables.specs.inner.Keys.{laid_over, judged_lines, match_as, sought_by}
use Rattle.symbols.specs.Flags.{has}
use Rattle.symbols.specs.Symbols.{symbol_at, first_at, mode_of, ending_space}
use Rattle.runs.specs.Plain.{plain_byte, also_ends}
use Rattle.runs.specs.Output.{laid_at}
use Rattle.references.specs.References.{referred_by}
use Rattle.tokens.specs.Tokens.{Lexeme, token_at}
use Rattle.parts.specs.Links.{Link, binds, none, link_at}
use Rattle.parts.specs.inner.Steps as Parts
use Rattle.leaves.specs.Leaves.{number_part, named_part}
use Rattle.parts.specs.declared.behind.Binding.{Binding}
use Rattle.arithmetic.specs.declared.operators.Level.{Level}
use Rattle.arithmetic.specs.declared.operators.Level.TheVariants as Levels
use Rattle.paper.specs.Refusals.{refusal_number, refusal_by}
use Rattle.paper.specs.declared.faults.Fault.TheVariants as Faults
use Rattle.gs.specs.Translations.{translated, out_after, translated_answer}
use Rattle.arithmetic.specs.Operators as Operators
use Rattle.arithmetic.specs.Values.{unary_value, binary_value}
use Rattle.expressions.specs.Answers.{evaluated}
use Rattle.filter.specs.Answers.{answer_to}
use Rattle.nosgoludd.specs.Faces.{answer_face, reading_face, check_face, found_face, evaluation_face}
use Rattle.promises.specs.Determined.{One, Determined}

-- what is seen is a function of what is given
function_of : {Lifetimes Arguments Answer After Given Seen : Type 0} {Learnt : Lifetimes → Arguments → Answer → After → Type 0}
    {given : Arguments → Given} {seen : Answer → After → Seen} (f : Given → Seen)
    → ((κs : Lifetimes) (a : Arguments) (r : Answer) (after : After) → Learnt κs a r after → seen r after ≡ f (given a)) → One Learnt given seen
function_of f is =
    record { one = λ κs κs' a a' r r' after after' same c c'. is κs a r after c ∙ ap f same ∙ sym (is κs' a' r' after' c') }

-- whether a set has a number once another, if it is one of the set's, is put in
put_in : ℕ → List ℕ → ℕ → ℕ → Bool
put_in size set number other = cond (ltb number (32 * size)) (eqb other number || holds set other) (holds set other)

put_in_so : (size : ℕ) (set after : List ℕ) (number other : ℕ) → (number < 32 * size → (other : ℕ) → holds after other ≡ (eqb other number || holds set other))
    → (32 * size ≤ number → after ≡ set) → holds after other ≡ put_in size set number other
unfolding put_in
put_in_so size set after number other inside beyond =
    either (λ b. holds after other ≡ b) (ltb number (32 * size)) (λ t. inside (ltb-true number (32 * size) t) other)
    (λ f. ap (λ s. holds s other) (beyond (ltb-false number (32 * size) f)))

-- the family of a form, as the code has it
family_in : Base → Form → Family
family_in Two form = Families.Binary form.width
family_in Ten form =
    cond form.spaced (cond form.signed (Families.SpacedSigned form.width) (Families.SpacedUnsigned form.width))
    (cond form.signed (cond form.terminated (Families.Signed form.width) Families.Bare) (Families.Unsigned form.width))
family_in Sixteen form = Families.Hex form.width

family_by : Described → Option Family
family_by unknown = None
family_by (known form) = Some (family_in form.base form)

family_back : (r : Option Family) → r ≡ family_by (form_of r)
unfolding family_in family_by
family_back None = refl
family_back (Some (Families.Hex width)) = refl
family_back (Some (Families.Binary width)) = refl
family_back (Some (Families.Unsigned width)) = refl
family_back (Some (Families.Signed width)) = refl
family_back (Some (Families.SpacedUnsigned width)) = refl
family_back (Some (Families.SpacedSigned width)) = refl
family_back (Some Families.Bare) = refl

-- an operator behind an operand, as the code has it, by the definitions' own type
behind_by : Link → Option Binding
behind_by (binds operator place next) = Some (record { operator = operator; place = place; next = next })
behind_by none = None

behind_back : (r : Option Binding) → r ≡ behind_by (Parts.link_of r)
unfolding behind_by
behind_back (Some b) = refl
behind_back None = refl

-- a level as the code has it, by its number
levels : List (Option Level)
levels = None ∷ Some Levels.Term ∷ Some Levels.Sum ∷ Some Levels.Relation ∷ Some Levels.Conjunction ∷ Some Levels.Disjunction ∷ []

level_by : ℕ → Option Level
level_by n = get_or levels n None

level_back : (r : Option Level) → r ≡ level_by (Operators.number_of r)
unfolding level_by levels
level_back None = refl
level_back (Some Levels.Term) = refl
level_back (Some Levels.Sum) = refl
level_back (Some Levels.Relation) = refl
level_back (Some Levels.Conjunction) = refl
level_back (Some Levels.Disjunction) = refl

pub determined : Determined
determined =
    record {
      cap = function_of (λ (allowance, _). allowed allowance) (λ κs a r after c. c.0);
      byte = function_of (λ (text, (at, _)). get_or text at 0) (λ κs a r after c. c);
      among = function_of (λ (low, (high, (c, _))). Bytes.among low high c) (λ κs a r after c. c);
      is_end = function_of (λ (c, _). Bytes.ends c) (λ κs a r after c. c);
      is_name_byte = function_of (λ (c, _). Bytes.name_byte c) (λ κs a r after c. c);
      is_letter = function_of (λ (c, _). Bytes.letter c) (λ κs a r after c. c);
      is_word_byte = function_of (λ (c, _). Bytes.word_byte c) (λ κs a r after c. c);
      kind_has = function_of (λ (kind, (c, _)). Bytes.of_kind kind c) (λ κs a r after c. c);
      skip = function_of (λ (kind, (text, (start, _))). start + Bytes.run_of (Bytes.of_kind kind) (drop start text)) (λ κs a r after c. c);
      refusal_number = function_of (λ (refusal, _). refusal_number refusal) (λ κs a r after c. c);
      fault_number = function_of (λ (fault, _). fault_number fault) (λ κs a r after c. c);
      one_if = function_of (λ (present, _). cond present 1 0) (λ κs a r after c. c.0);
      put_if = function_of (λ (wanted, (byte, (at, (buf, _)))). (tt, cond wanted (set buf at byte) buf)) (λ κs a r after c. ap (λ out. (tt, out)) c);
      claim =
          function_of (λ (characters, (terminated, (buf, _))). (converted_by (laying_of characters terminated (length buf)), claimed_in characters terminated buf))
          (λ κs a r after c. ap₂ (λ r out. (r, out)) c.0 c.1);
      bits_none = λ words fits number. function_of (λ _. false) (λ κs a r after c. c number);
      bits_has = λ words fits. function_of (λ (set, (number, _)). holds set.words number) (λ κs a r after c. c);
      bits_insert =
          λ words fits other. function_of (λ (set, (number, _)). put_in words set.words number other) (λ κs a r after c. put_in_so words _ _ _ other c.0 (λ h. ap (λ s. s.words) (c.1 h)));
      byte_inside = function_of (λ (text, (at, (further, _))). get_or text (at + further) 0) (λ κs a r after c. c);
      family_of = function_of (λ (call, _). family_by (described call)) (λ κs a r after c. family_back r ∙ ap family_by c);
      count_decimal = function_of (λ (n, _). digit_count 10 n) (λ κs a r after c. c.0);
      base_shrink = function_of (λ (base, (n, _)). n / radix base) (λ κs a r after c. c);
      base_last_glyph = function_of (λ (base, (n, _)). glyph (n % radix base)) (λ κs a r after c. c);
      width_bits = function_of (λ (width, _). bits width) (λ κs a r after c. c);
      width_low_bits = function_of (λ (width, (value, _)). value % 2 ^ bits width) (λ κs a r after c. c);
      number_in = function_of (λ (signed, (width, (value, _))). number_in signed width value) (λ κs a r after c. c);
      signed_decimal =
          function_of (λ (value, (out, _)). (length (decimal_of value), decimal_of value ++ drop (length (decimal_of value)) out))
          (λ κs a r after c. ap₂ (λ r out. (r, out)) c.0.0 c.1);
      moment_of = function_of (λ (low, (high, _)). moment_at (low + 4294967296 * high)) (λ κs a r after c. c);
      part = function_of (λ (table, (start, (size, _))). take size (drop start table)) (λ κs a r after c. c);
      name_at = function_of (λ (table, (place, _)). Records.name_at table place) (λ κs a r after c. c);
      next_place = function_of (λ (table, (place, _)). Records.next_place table place) (λ κs a r after c. c);
      variable_at = function_of (λ (holder, (table, (place, _))). variable_at holder table (Records.entry_at table place)) (λ κs a r after c. c);
      is_shaped = function_of (λ (table, (place, _)). Records.shaped table place) (λ κs a r after c. c);
      key_of = function_of (λ (name, _). key_of name) (λ κs a r after c. c.0);
      same_name = function_of (λ (name, (other, _)). Records.same_name name other) (λ κs a r after c. c);
      comes_before = function_of (λ (name, (other, _)). Records.comes_before name other) (λ κs a r after c. c);
      kind_number = function_of (λ (kind, _). kind_number kind) (λ κs a r after c. c);
      pattern_of = function_of (λ (value, _). pattern value) (λ κs a r after c. c);
      key_tables =
          function_of (λ (farm, (house, (keys, _))). (Judgements.judged farm house, laid_over (judged_lines farm house) keys))
          (λ κs a r after c. ap₂ (λ r keys. (r, keys)) c.0 c.1);
      value_of = function_of (λ (farm, (house, (v, _))). part_of farm house v) (λ κs a r after c. c);
      find = function_of (λ (farm, (house, (keys, (name, _)))). match_as farm house (sought_by farm house keys name)) (λ κs a r after c. c);
      place_in_index = function_of (λ (index, (entry, _)). place_in index entry) (λ κs a r after c. c.0);
      search_index = function_of (λ (table, (index, (name, _))). match_in table (searched table index name)) (λ κs a r after c. c);
      judge =
          function_of
          (λ (farm, (house, (given, (keys, _)))). (
            Through.judged_by (Judgements.judged farm house) (fits given house) (Through.lines_of (Judgements.judged farm (Through.to_lay house given))),
            laid_over (judged_lines farm (Through.to_lay house given)) keys,
          ))
          (λ κs a r after c. ap₂ (λ r keys. (r, keys)) c.0 c.1);
      bytes_given = function_of (λ (given, _). Through.bytes_given given) (λ κs a r after c. c);
      find_through =
          function_of (λ (farm, (house, (keys, (index, (name, _))))). match_as farm house (Through.sought_through farm house keys index name)) (λ κs a r after c. c);
      symbol_at = function_of (λ (text, (flags, (mode, (at, _)))). symbol_at text flags.0 mode at) (λ κs a r after c. c);
      open_text =
          function_of (λ (text, (flags, _)). record { at = first_at text flags.0; mode = mode_of text flags.0 })
          (λ κs a r after c. λ i. record { at = c.0 i; mode = c.1 i });
      is_ending_space = function_of (λ (flags, (mode, (c, _))). ending_space flags.0 mode c) (λ κs a r after c. c);
      flags_of = function_of (λ (word, _). record { 0 = word }) (λ κs a r after c. ap (λ w. record { 0 = w }) c);
      flags_none = function_of (λ a. record { 0 = 0 }) (λ κs a r after c. ap (λ w. record { 0 = w }) c);
      flags_has = function_of (λ (flags, (bit, _)). has flags.0 bit) (λ κs a r after c. c);
      plain_end =
          function_of (λ (text, (start, (spacesEnd, _))). start + Bytes.run_of (plain_byte (also_ends spacesEnd)) (drop start text)) (λ κs a r after c. c);
      put = function_of (λ (byte, (to, (out, _))). (tt, laid_at out to (byte ∷ []))) (λ κs a r after c. ap (λ out. (tt, out)) c);
      copy = function_of (λ (given, (to, (out, _))). (tt, laid_at out to given)) (λ κs a r after c. ap (λ out. (tt, out)) c);
      resolve = function_of (λ (content, (farm, (house, (keys, (index, _))))). referred_by farm house keys index content) (λ κs a r after c. c);
      level = function_of (λ (operator, _). level_by (Operators.level_of operator)) (λ κs a r after c. level_back r ∙ ap level_by c);
      level_number = function_of (λ (level, _). Operators.level_number level) (λ κs a r after c. c);
      stands_alone = function_of (λ (operator, _). Operators.stands_alone operator) (λ κs a r after c. c);
      divides = function_of (λ (operator, _). Operators.divides operator) (λ κs a r after c. c);
      unary = function_of (λ (operator, (v, _)). unary_value operator v) (λ κs a r after c. c);
      binary = function_of (λ (operator, (lhs, (rhs, _))). binary_value operator lhs rhs) (λ κs a r after c. c);
      token_at =
          function_of (λ (text, (at, _)). let l = token_at text at in record { token = l.token; place = l.place; next = l.next })
          (λ κs a r after c. ap (λ (l : Lexeme). record { token = l.token; place = l.place; next = l.next }) c);
      operator_behind = function_of (λ (text, (level, (at, _))). behind_by (link_at text level at)) (λ κs a r after c. behind_back r ∙ ap behind_by c);
      binding_behind =
          function_of (λ (text, (level, (at, _))). behind_by (link_at text (Operators.level_number level) at))
          (λ κs a r after c. behind_back r ∙ ap behind_by c);
      end_behind = function_of (λ (text, (wanted, (at, _))). Parts.end_behind text wanted at) (λ κs a r after c. c);
      up_to = function_of (λ (text, (part, (wanted, _))). Parts.part_up_to text wanted part) (λ κs a r after c. c);
      too_deep_part = function_of (λ (place, _). Parts.refused_at (refusal_by Faults.TooDeep) place) (λ κs a r after c. c);
      bad_part = function_of (λ (place, _). Parts.refused_at (refusal_by Faults.BadExpression) place) (λ κs a r after c. c);
      moved_to = function_of (λ (part, (next, _)). Parts.moved_to next part) (λ κs a r after c. c);
      refused_part = function_of (λ (why, (place, _)). Parts.refused_at why place) (λ κs a r after c. c);
      account_of = function_of (λ (part, _). Parts.account_of part.outcome) (λ κs a r after c. c);
      covered_part = function_of (λ (operator, (part, _)). Parts.covered_part operator part) (λ κs a r after c. c);
      joined_part = function_of (λ (b, (lhs, (rhs, _))). Parts.joined_part b.operator b.place lhs rhs) (λ κs a r after c. c);
      leaf_number = function_of (λ (value, (next, (account, _))). number_part value next account) (λ κs a r after c. c);
      leaf_named =
          function_of (λ (name, (farm, (house, (keys, (place, (next, (account, _))))))). named_part farm house keys name place next account)
          (λ κs a r after c. c);
      answer =
          function_of (λ (text, (out, _)). (length (answer_to text), answer_to text ++ drop (length (answer_to text)) out))
          (λ κs a r after c. ap₂ (λ r out. (r, out)) c.0 (c.1 ∙ ap (λ n. answer_to a.0.now ++ drop n a.1.0.now) c.0));
      nos_convert =
          function_of (λ (call, (value, (buf, _))). (answer_face (answer_of call value (length buf)), buffer_of call value buf))
          (λ κs a r after c. ap₂ (λ r buf. (r, buf)) c.0 c.1);
      nos_convert_date =
          function_of (λ (time, (format, (buf, _))). (answer_face (date_answer time format (length buf)), date_buffer time format buf))
          (λ κs a r after c. ap₂ (λ r buf. (r, buf)) c.0 c.1);
      nos_read_unsigned =
          function_of (λ (text, (whole, (limit, _))). reading_face (reading text (not (eqb whole 0)) limit)) (λ κs a r after c. c);
      nos_check_table = function_of (λ (table, _). check_face (checked table)) (λ κs a r after c. c);
      nos_build_index =
          function_of (λ (table, (out, _)). (answer_face (built_answer (built table (length out))), index_after table out))
          (λ κs a r after c. ap₂ (λ r out. (r, out)) c.0 c.1);
      nos_look_up =
          function_of (λ (name, (farm, (house, (index, (indexed, _))))). found_face (looked_up farm house (given_by (not (eqb indexed 0)) index) name))
          (λ κs a r after c. c);
      nos_translate =
          function_of
          (λ (text, (farm, (house, (index, (indexed, (flags, (allowance, (out, _)))))))). let given = given_by (not (eqb indexed 0)) index in
          (answer_face (translated_answer (translated text farm house given flags allowance (length out))), out_after text farm house given flags allowance out))
          (λ κs a r after c. ap₂ (λ r out. (r, out)) c.0 c.1);
      nos_evaluate = function_of (λ (text, (farm, (house, (allowance, _)))). evaluation_face (evaluated text farm house allowance)) (λ κs a r after c. c);
    }
