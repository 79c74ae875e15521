-- What the farm's table and the house's promise together: the order in which they are judged, what a name means in them, and what that
-- spends.
use Rattle.std.specs.Prelude.{◌≡◌, true, false, ◌↔◌, ℕ, suc, ◌≤◌, ◌<◌, length}
use mathlib.Core.List.{List, [], Memᴰ}
use Rattle.paper.specs.Refusals.{longest}
use Rattle.paper.specs.declared.refusals.Refusal.TheVariants as Refusals
use Rattle.paper.specs.Traces.{Trace, spends, enters, look_ups}
use Rattle.paper.specs.declared.Holder.{Holder}
use Rattle.paper.specs.declared.Holder.TheVariants.{Farm, House}
use Rattle.records.specs.Records.{Entry, same_name}
use Rattle.variables.specs.Tables.{Sought, absent, present, bad_table_at, checked, check_number, records_of, sought_in}
use Rattle.records.specs.Kinds.{kind_of}
use Rattle.records.specs.declared.kinds.Kind.{Kind}
use Rattle.records.specs.declared.kinds.Kind.TheVariants.{Text, Integer, Macro}
use Rattle.variables.specs.Holdings.{nowhere, held, sought_in_both}
use Rattle.variables.specs.Names.{Meaning, unknown, meant, names_of}
use Rattle.variables.specs.Judgements.{good, long_text, bad_table, judgement}
use Rattle.gs.specs.Readings.{Expand, name_gives, expands, whole_text, read_at}
use Rattle.gs.specs.Translations.{reading_of}
use Rattle.expressions.specs.Trees.{whole_tree}
use Rattle.expressions.specs.Evaluations.{name_steps, evaluation, result}
use Rattle.expressions.specs.Answers as Expressions

-- neither the text nor a table is too long
abbrev pub Short : List ℕ → List ℕ → List ℕ → Type 0
Short text farm house = (length text ≤ longest) × (length farm ≤ longest) × (length house ≤ longest)

-- Demand 1: 18 of the text, of the farm's table, of the house's; then 13 of the farm's at its first bad record, and of the house's at its
-- own; each exactly where nothing before it is found
pub record Ordered (text farm house : List ℕ) : Type 0 where
  pub text_long : (judgement text farm house ≡ long_text) ↔ (longest < length text)
  pub farm_long : (judgement text farm house ≡ bad_table Refusals.OverLength Farm 0) ↔ ((length text ≤ longest) × (longest < length farm))
  pub house_long :
      (judgement text farm house ≡ bad_table Refusals.OverLength House 0)
      ↔ ((length text ≤ longest) × (length farm ≤ longest) × (longest < length house))
  pub farm_bad :
      (place : ℕ) → (judgement text farm house ≡ bad_table Refusals.BadTable Farm place)
      ↔ (Short text farm house × (checked farm ≡ bad_table_at Refusals.BadTable place))
  pub house_bad :
      (place : ℕ) → (judgement text farm house ≡ bad_table Refusals.BadTable House place)
      ↔ (Short text farm house × (check_number (checked farm) ≡ 0) × (checked house ≡ bad_table_at Refusals.BadTable place))
  pub both_good :
      (judgement text farm house ≡ good)
      ↔ (Short text farm house × (check_number (checked farm) ≡ 0) × (check_number (checked house) ≡ 0))

abbrev pub InOrder : Type 0
InOrder = (text farm house : List ℕ) → Ordered text farm house

-- a farm's name hides the house's, whatever the kinds are and whatever the house's table holds
abbrev pub FarmFirst : Type 0
FarmFirst =
    (farm house name : List ℕ) (e : Entry) → check_number (checked farm) ≡ 0 → Memᴰ e (records_of farm) → same_name e.name name ≡ true
    → names_of farm house name ≡ meant e

-- what a name means in one table alone
abbrev pub alone : Sought → Meaning
alone absent = unknown
alone (present e) = meant e

abbrev pub meant_in : List ℕ → List ℕ → Meaning
meant_in table name = alone (sought_in table name)

-- a name that the farm's table has not means what it means in the house's alone
abbrev pub HouseNext : Type 0
HouseNext =
    (farm house name : List ℕ) → ((e : Entry) → Memᴰ e (records_of farm) → same_name e.name name ≡ false)
    → names_of farm house name ≡ meant_in house name

-- so with an empty farm's table every name does, and the readings are those over the house's alone
pub record HouseAlone (house : List ℕ) : Type 0 where
  pub names : (name : List ℕ) → names_of [] house name ≡ meant_in house name
  pub translations : (text : List ℕ) (flags : ℕ) → reading_of text [] house flags ≡ read_at (meant_in house) 0 text flags
  pub evaluations : (text : List ℕ) → Expressions.reading_of text [] house ≡ evaluation (meant_in house) (whole_tree text)
  pub values : (text : List ℕ) → Expressions.value_in text [] house ≡ result (meant_in house) (whole_tree text)

abbrev pub EmptyFarm : Type 0
EmptyFarm = (house : List ℕ) → HouseAlone house

-- the readings of a text and of an expression ask what names mean in the two tables, and nothing else of them
pub record ReadByNames (farm house : List ℕ) : Type 0 where
  pub translations : (text : List ℕ) (flags : ℕ) → reading_of text farm house flags ≡ read_at (names_of farm house) 0 text flags
  pub evaluations : (text : List ℕ) → Expressions.reading_of text farm house ≡ evaluation (names_of farm house) (whole_tree text)
  pub values : (text : List ℕ) → Expressions.value_in text farm house ≡ result (names_of farm house) (whole_tree text)

abbrev pub ByNames : Type 0
ByNames = (farm house : List ℕ) → ReadByNames farm house

-- a name that one of the tables holds: the record that it means
abbrev pub Held : List ℕ → List ℕ → List ℕ → Holder → Entry → Kind → Type 0
Held farm house name holder e kind = (sought_in_both farm house name ≡ held holder e) × (kind_of e.kind ≡ kind)

-- the value of a macro, whichever table holds it, is read over both
abbrev pub MacroOfEither : Type 0
MacroOfEither =
    (farm house name : List ℕ) (holder : Holder) (e : Entry) (levels place : ℕ) (rest : Trace) → let names = names_of farm house in
    Held farm house name holder e Macro
    → name_gives (expands names (suc levels)) (names name) name place rest
    ≡ spends place (enters (record { name = name; place = place }) (whole_text names (expands names levels) e.value 0) rest)

-- a name that is known spends one look-up, whichever table holds it, and a macro beside it what its value takes
pub record SpendsOnce (farm house name : List ℕ) (holder : Holder) (e : Entry) : Type 0 where
  pub string : (expand : Expand) (place : ℕ) (rest : Trace) → Held farm house name holder e Text
      → look_ups (name_gives expand (names_of farm house name) name place rest) ≡ suc (look_ups rest)
  pub integer : (expand : Expand) (place : ℕ) (rest : Trace) → Held farm house name holder e Integer
      → look_ups (name_gives expand (names_of farm house name) name place rest) ≡ suc (look_ups rest)
  pub macro : (levels place : ℕ) (rest : Trace) → let names = names_of farm house in
      Held farm house name holder e Macro
      → look_ups (name_gives (expands names (suc levels)) (names name) name place rest)
      ≡ suc (look_ups (enters (record { name = name; place = place }) (whole_text names (expands names levels) e.value 0) rest))
  pub in_expression : (place : ℕ) (rest : Trace) → Held farm house name holder e Integer
      → look_ups (name_steps (names_of farm house name) place rest) ≡ suc (look_ups rest)
  -- a macro in a text of depth 16 is refused, and so is one in an expression, as a string is there: neither spends one
  pub too_deep : (place : ℕ) (rest : Trace) → Held farm house name holder e Macro
      → look_ups (name_gives (expands (names_of farm house) 0) (names_of farm house name) name place rest) ≡ 0
  pub string_in_expression : (place : ℕ) (rest : Trace) → Held farm house name holder e Text
      → look_ups (name_steps (names_of farm house name) place rest) ≡ 0
  pub macro_in_expression : (place : ℕ) (rest : Trace) → Held farm house name holder e Macro
      → look_ups (name_steps (names_of farm house name) place rest) ≡ 0

abbrev pub OneLookUp : Type 0
OneLookUp = (farm house name : List ℕ) (holder : Holder) (e : Entry) → SpendsOnce farm house name holder e

-- and an unknown one spends none
abbrev pub NoLookUp : Type 0
NoLookUp =
    (farm house name : List ℕ) (expand : Expand) (place : ℕ) (rest : Trace) → sought_in_both farm house name ≡ nowhere
    → (look_ups (name_gives expand (names_of farm house name) name place rest) ≡ 0) × (look_ups (name_steps (names_of farm house name) place rest) ≡ 0)
