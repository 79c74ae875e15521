-- What two tables promise together is kept.
use mathlib.Core.Path.{◌≡◌, refl, ap, sym, ◌∙◌}
use mathlib.Core.List.{List, [], ◌∷◌}
use Prim.Native.Nat.{ℕ, suc, ◌≤◌, ◌<◌}
use native.Mathlib.Omega.{arith}
use lib.ListN.{length}
use Rattle.paper.specs.Answers.{counted_in}
use Rattle.paper.specs.Refusals.{refusal_number, longest}
use Rattle.paper.specs.declared.refusals.Refusal.TheVariants as Refusals
use Rattle.paper.specs.Traces.{Trace, look_ups}
use Rattle.paper.specs.declared.Holder.{Holder}
use Rattle.paper.specs.declared.Holder.TheVariants.{Farm, House}
use Rattle.paper.proofs.Choice.{clash}
use Rattle.variables.specs.Tables.{Sought, absent, present, entries, sought, bad_table_at, checked, check_number, records_of, sought_in}
use Rattle.variables.specs.Holdings.{held_in, or_else}
use Rattle.records.specs.Records.{Entry}
use Rattle.records.specs.Kinds.{pattern}
use Rattle.records.specs.declared.kinds.Kind.{Kind}
use Rattle.records.specs.declared.kinds.Kind.TheVariants.{Text, Integer, Macro}
use Rattle.variables.specs.Names.{Meaning, value_as, meant, in_reading, names_of}
use Rattle.variables.specs.Judgements as Judgements
use Rattle.variables.specs.Judgements.{good, bad_table, judgement, judged_by}
use Rattle.std.specs.Prelude.{Result, Ok, Err}
use Rattle.paper.specs.declared.refusals.BadTableOf.{BadTableOf}
use Rattle.variables.proofs.Bounds.{good_table}
use Rattle.variables.proofs.Good.{laid}
use Rattle.variables.proofs.Judging.{Case, long_farm, long_house, bad_farm, bad_house, both_good, judged_case, judged_so, within, over_exactly, read, refused}
use Rattle.variables.proofs.Unique.{own, same_sought, unmet}
use Rattle.forms.specs.Calls.{decimal_of}
use Rattle.gs.specs.Readings.{Expand, gives_all, name_gives, expands, read_at}
use Rattle.expressions.specs.Trees.{whole_tree}
use Rattle.expressions.specs.Evaluations.{name_steps, evaluation, result}
use Rattle.promises.specs.TwoTables.{Ordered, InOrder, FarmFirst, alone, meant_in, HouseNext, EmptyFarm, ByNames, Held, MacroOfEither, OneLookUp, NoLookUp}

-- the place of a bad table's refusal
abbrev judged_place : Result ℕ BadTableOf → ℕ
judged_place (Ok count) = 0
judged_place (Err bad) = bad.at.0

-- two refusals that are not alike, by their numbers and by what their places are counted in
abbrev judged_number : Result ℕ BadTableOf → ℕ
judged_number (Ok count) = 0
judged_number (Err bad) = refusal_number bad.why

abbrev judged_counted : Result ℕ BadTableOf → ℕ
judged_counted (Ok count) = 0
judged_counted (Err bad) = counted_in bad.holder

unlike : {A : Type 0} {r d : Result ℕ BadTableOf} → r ≡ d → ((judged_number r ≡ judged_number d) × (judged_counted r ≡ judged_counted d) → ⊥) → A
unlike e n = absurd (n (ap judged_number e, ap judged_counted e))

-- what the tables' judgement says of them, finding by finding
module _ (farm house : List ℕ) where
  farm_long : {r : Result ℕ BadTableOf} → Case farm house r → r ≡ Judgements.bad_table_at Refusals.OverLength Farm 0 → longest < length farm
  farm_long (long_farm l) e = l
  farm_long (long_house f l) e = unlike e (λ q. omega arith)
  farm_long (bad_farm f h p b) e = unlike e (λ q. omega arith)
  farm_long (bad_house f h o g p b) e = unlike e (λ q. omega arith)
  farm_long (both_good f h o g c b) e = clash (cc)

  house_long : {r : Result ℕ BadTableOf} → Case farm house r → r ≡ Judgements.bad_table_at Refusals.OverLength House 0 → (length farm ≤ longest) × (longest < length house)
  house_long (long_farm l) e = unlike e (λ q. omega arith)
  house_long (long_house f l) e = (f, l)
  house_long (bad_farm f h p b) e = unlike e (λ q. omega arith)
  house_long (bad_house f h o g p b) e = unlike e (λ q. omega arith)
  house_long (both_good f h o g c b) e = clash (cc)

  abbrev BothShort : Type 0
  BothShort = (length farm ≤ longest) × (length house ≤ longest)

  farm_bad : (place : ℕ) {r : Result ℕ BadTableOf} → Case farm house r → r ≡ Judgements.bad_table_at Refusals.BadTable Farm place
      → BothShort × (checked farm ≡ bad_table_at Refusals.BadTable place)
  farm_bad place (long_farm l) e = unlike e (λ q. omega arith)
  farm_bad place (long_house f l) e = unlike e (λ q. omega arith)
  farm_bad place (bad_farm f h p b) e = let same : p ≡ place = ap (λ (r : Result ℕ BadTableOf). judged_place r) e in ((f, h), b ∙ ap (bad_table_at Refusals.BadTable) same)
  farm_bad place (bad_house f h o g p b) e = unlike e (λ q. omega arith)
  farm_bad place (both_good f h o g c b) e = clash (cc)

  house_bad : (place : ℕ) {r : Result ℕ BadTableOf} → Case farm house r → r ≡ Judgements.bad_table_at Refusals.BadTable House place
      → BothShort × (check_number (checked farm) ≡ 0) × (checked house ≡ bad_table_at Refusals.BadTable place)
  house_bad place (long_farm l) e = unlike e (λ q. omega arith)
  house_bad place (long_house f l) e = unlike e (λ q. omega arith)
  house_bad place (bad_farm f h p b) e = unlike e (λ q. omega arith)
  house_bad place (bad_house f h o g p b) e = let same : p ≡ place = ap (λ (r : Result ℕ BadTableOf). judged_place r) e in ((f, h), ap check_number g, b ∙ ap (bad_table_at Refusals.BadTable) same)
  house_bad place (both_good f h o g c b) e = clash (cc)

  all_good : {r : Result ℕ BadTableOf} → Case farm house r → judged_by r ≡ good
      → BothShort × (check_number (checked farm) ≡ 0) × (check_number (checked house) ≡ 0)
  all_good (long_farm l) e = clash (cc)
  all_good (long_house f l) e = clash (cc)
  all_good (bad_farm f h p b) e = clash (cc)
  all_good (bad_house f h o g p b) e = clash (cc)
  all_good (both_good f h o g c b) e = ((f, h), ap check_number g, ap check_number b)

-- and of the text before them
module _ (text farm house : List ℕ) where
  -- a finding of the tables comes where the text is not too long
  found : length text ≤ longest → {r : Result ℕ BadTableOf} → Case farm house r → judgement text farm house ≡ judged_by r
  found t c = within text farm house t ∙ ap judged_by (judged_so farm house c)

  ordered : Ordered text farm house
  ordered =
      record {
        text_long = over_exactly text farm house;
        farm_long = (
          λ e. let r = refused text farm house Refusals.OverLength Farm 0 e in (r.0, farm_long farm house (judged_case farm house) r.1),
          λ (t, l). found t (long_farm l),
        );
        house_long = (
          λ e.
              let r = refused text farm house Refusals.OverLength House 0 e in
              let l = house_long farm house (judged_case farm house) r.1 in
              (r.0, l.0, l.1),
          λ (t, f, l). found t (long_house f l),
        );
        farm_bad = λ place. (
          λ e.
              let r = refused text farm house Refusals.BadTable Farm place e in
              let b = farm_bad farm house place (judged_case farm house) r.1 in
              ((r.0, b.0.0, b.0.1), b.1),
          λ ((t, f, h), b). found t (bad_farm f h place b),
        );
        house_bad = λ place. (
          λ e.
              let r = refused text farm house Refusals.BadTable House place e in
              let b = house_bad farm house place (judged_case farm house) r.1 in
              ((r.0, b.0.0, b.0.1), b.1, b.2),
          λ ((t, f, h), z, b). let g = good_table farm z in found t (bad_house f h g.0 g.1 place b),
        );
        both_good = (
          λ e.
              let t = (read text farm house e).0 in
              let g = all_good farm house (judged_case farm house) (sym (within text farm house t) ∙ e) in
              ((t, g.0.0, g.0.1), g.1, g.2),
          λ ((t, f, h), z, y).
              let g = good_table farm z in
              let k = good_table house y in
              found t (both_good f h g.0 g.1 k.0 k.1),
        );
      }

pub in_order : InOrder
in_order text farm house = ordered text farm house

pub farm_first : FarmFirst
farm_first farm house name e z m same =
    let g = good_table farm z in
    let found : sought_in farm name ≡ present e = sym (same_sought (records_of farm) e.name name same) ∙ own (laid farm g.1) m in
    ap (λ s. in_reading (or_else (held_in Farm s) (held_in House (sought_in house name)))) found

-- what a record of the house's means is what it means there alone
house_meant : (s : Sought) → in_reading (held_in House s) ≡ alone s
house_meant absent = refl
house_meant (present e) = refl

pub house_next : HouseNext
house_next farm house name none =
    ap (λ s. in_reading (or_else (held_in Farm s) (held_in House (sought_in house name)))) (unmet (records_of farm) name none)
    ∙ house_meant (sought_in house name)

-- an empty table has no record
none_in_empty : (name : List ℕ) → sought_in [] name ≡ absent
unfolding entries sought
none_in_empty name = refl

pub empty_farm : EmptyFarm
empty_farm house =
    record {
      names = names;
      translations = λ text flags. ap (λ (n : List ℕ → Meaning). read_at n 0 text flags) all;
      evaluations = λ text. ap (λ (n : List ℕ → Meaning). evaluation n (whole_tree text)) all;
      values = λ text. ap (λ (n : List ℕ → Meaning). result n (whole_tree text)) all;
    }
  where
    names : (name : List ℕ) → names_of [] house name ≡ meant_in house name
    names name =
        ap (λ s. in_reading (or_else (held_in Farm s) (held_in House (sought_in house name)))) (none_in_empty name)
        ∙ house_meant (sought_in house name)

    all : names_of [] house ≡ meant_in house
    all = λ i name. names name i

pub read_by_names : ByNames
read_by_names farm house = record { translations = λ text flags. refl; evaluations = λ text. refl; values = λ text. refl }

-- what a name means that one of the tables holds
meaning : (farm house name : List ℕ) (holder : Holder) (e : Entry) (kind : Kind) → Held farm house name holder e kind
    → names_of farm house name ≡ value_as kind e.value
unfolding meant
meaning farm house name holder e kind h = ap in_reading h.0 ∙ ap (λ k. value_as k e.value) h.1

pub macro_of_either : MacroOfEither
unfolding name_gives expands
macro_of_either farm house name holder e levels place rest h =
    ap (λ m. name_gives (expands (names_of farm house) (suc levels)) m name place rest) (meaning farm house name holder e Macro h)

-- bytes that are given take no look-up
given_free : (bytes : List ℕ) (rest : Trace) → look_ups (gives_all bytes rest) ≡ look_ups rest
given_free [] rest = refl
given_free (b ∷ bs) rest = given_free bs rest

pub one_look_up : OneLookUp
unfolding name_gives expands
one_look_up farm house name holder e =
    let gives : (kind : Kind) (expand : Expand) (place : ℕ) (rest : Trace) → Held farm house name holder e kind
    → look_ups (name_gives expand (names_of farm house name) name place rest) ≡ look_ups (name_gives expand (value_as kind e.value) name place rest) =
    λ kind expand place rest h. ap (λ m. look_ups (name_gives expand m name place rest)) (meaning farm house name holder e kind h) in
    let steps : (kind : Kind) (place : ℕ) (rest : Trace) → Held farm house name holder e kind
    → look_ups (name_steps (names_of farm house name) place rest) ≡ look_ups (name_steps (value_as kind e.value) place rest) =
    λ kind place rest h. ap (λ m. look_ups (name_steps m place rest)) (meaning farm house name holder e kind h) in
    record {
      string = λ expand place rest h. gives Text expand place rest h ∙ ap suc (given_free e.value rest);
      integer = λ expand place rest h. gives Integer expand place rest h ∙ ap suc (given_free (decimal_of (pattern e.value)) rest);
      macro = λ levels place rest h. ap look_ups (macro_of_either farm house name holder e levels place rest h);
      in_expression = λ place rest h. steps Integer place rest h;
      too_deep = λ place rest h. gives Macro (expands (names_of farm house) 0) place rest h;
      string_in_expression = λ place rest h. steps Text place rest h;
      macro_in_expression = λ place rest h. steps Macro place rest h;
    }

pub no_look_up : NoLookUp
unfolding name_gives
no_look_up farm house name expand place rest h = (
  ap (λ s. look_ups (name_gives expand (in_reading s) name place rest)) h,
  ap (λ s. look_ups (name_steps (in_reading s) place rest)) h,
)
