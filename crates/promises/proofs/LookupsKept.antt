-- What `check_table`, `look_up` and `look_up_value` promise is kept.
use mathlib.Core.Path.{◌≡◌, refl, ap, ap₂, sym, subst, ◌∙◌}
use mathlib.Core.Bool.{Bool, true, false, true≢false}
use mathlib.Core.List.Memᴰ
use mathlib.Core.List.{List, [], Memᴰ}
use mathlib.Core.Logic.{◌↔◌}
use Prim.Native.Nat.{ℕ, ◌+◌, ◌≤◌, ◌<◌}
use native.Mathlib.Omega.{arith}
use lib.ListN.{length, take, drop}
use Rattle.paper.specs.Answers.{in_text, in_farm, in_index, counted_in}
use Rattle.paper.specs.Refusals.{refusal_number, unknown_name, allowance_spent, bad_index}
use Rattle.paper.specs.declared.Holder.{Holder}
use Rattle.paper.specs.declared.Holder.TheVariants.{Farm, House}
use Rattle.std.specs.Prelude.{Some, None, Result, Ok, Err}
use Rattle.paper.specs.declared.refusals.BadTable.{BadTable}
use Rattle.paper.specs.declared.refusals.BadTableOf.{BadTableOf}
use Rattle.paper.proofs.Choice.{clash}
use Rattle.records.specs.Records.{Entry, same_name}
use Rattle.records.specs.Kinds.{kind_of, kind_number}
use Rattle.records.proofs.KindLaws.{kind_number_lem}
use Rattle.records.proofs.Whole.{own_value}
use Rattle.variables.specs.Tables.{present, checked, records_of, sought_in, check_number}
use Rattle.variables.specs.Holdings.{held_by, Holding, nowhere, held, sought_in_both}
use Rattle.indexes.specs.Indexes.{Given, fits}
use Rattle.variables.specs.Judgements.{bad_table_at, judged}
use Rattle.lookups.specs.Lookups.{Found, found_as, found_by, looked_up, value_part, found_number, found_counted, found_place, found_kind, found_start, found_length}
use Rattle.lookups.specs.declared.NotGood.TheVariants.{Table, Index}
use Rattle.variables.proofs.Bounds.{checked_bounded, over_length_exactly, good_table, bad_number, Within, judged_within}
use Rattle.lookups.proofs.Bounds.{looked_up_bounded}
use Rattle.variables.proofs.Format.{format}
use Rattle.variables.proofs.Good.{Laid, laid, wholes}
use Rattle.variables.proofs.Judging.{both_good, judged_so, both_are, refused}
use Rattle.variables.proofs.Own.{Where, in_farm as found_in_farm, in_house as found_in_house, in_neither, sought_where}
use Rattle.variables.proofs.Unique.{found, unique, missed, unmet, same_sought, own}
use Rattle.promises.proofs.OtherNumbers.{not_by_check}
use Rattle.promises.specs.Accepted.{is_good, is_known}
use Rattle.promises.specs.Lookups.{OneCheck, OneFound, OnePart, CheckAccepts, LookUpAccepts, CheckRefusals, LookUpRefusals, OverLength, Records, Good, Judges, HasIt, Known, Names, Finds, Hides, Misses, BadIndex, Refused, Through, Inside, Part}

pub one_check : OneCheck
one_check table r r' c c' = c.answer ∙ sym c'.answer

pub one_found : OneFound
one_found farm house given name r r' c c' = c.answer ∙ sym c'.answer

pub one_part : OnePart
one_part farm house given name part part' c c' = c.answer ∙ sym c'.answer

pub check_refusals : CheckRefusals
check_refusals table r c = Memᴰ.cast (ap check_number c.answer) (checked_bounded table).listed

pub look_up_refusals : LookUpRefusals
look_up_refusals farm house given name r c = Memᴰ.cast (ap found_number c.answer) (looked_up_bounded farm house given name).listed

pub over_length : OverLength
over_length table r c =
    let exactly = over_length_exactly table in
    let same = ap check_number c.answer in
    (λ h. exactly.0 (sym same ∙ h), λ h. same ∙ exactly.1 h)

module _ (table : List ℕ) where
  -- a table whose number is 0 is a good one
  check_accepts_by : (d : Result ℕ BadTable) → checked table ≡ d → (check_number d ≡ 0) ↔ (is_good d ≡ true)
  check_accepts_by (Ok n) e = (λ _. refl, λ _. refl)
  check_accepts_by (Err b) e = (λ z. absurd (omega (arith, (checked_bounded table).refused b e)), λ z. clash (cc))

  records_of_lem : (d : Result ℕ BadTable) → checked table ≡ d → check_number d ≡ 0 → Records table d
  records_of_lem (Ok n) e z =
      let l = laid table e in
      record { bytes = format table e; count = l.counted; few = l.few; sounds = l.sounds; unequal = λ e f a b same. unique l a b same }
  records_of_lem (Err b) e z = absurd (omega (arith, (checked_bounded table).refused b e))

pub check_accepts : CheckAccepts
check_accepts table r c = check_accepts_by table r (sym c.answer)

pub records : Good
records table r c = records_of_lem table r (sym c.answer)

-- good tables are judged so
both_so : (farm house : List ℕ) → check_number (checked farm) ≡ 0 → check_number (checked house) ≡ 0 → (n : ℕ) × (judged farm house ≡ Ok n)
both_so farm house f h =
    let g = good_table farm f in
    let k = good_table house h in
    (g.0 + k.0, judged_so farm house (both_good (laid farm g.1).short (laid house k.1).short g.0 g.1 k.0 k.1))

-- the two tables are counted in two numbers
told_apart : (h h' : Holder) → counted_in h ≡ counted_in h' → h ≡ h'
told_apart Farm Farm e = refl
told_apart Farm House e = absurd (omega arith)
told_apart House Farm e = absurd (omega arith)
told_apart House House e = refl

module _ (farm house name : List ℕ) where
  abbrev sought : Holding
  sought = sought_in_both farm house name

  abbrev F : Holding → Found
  F h = Ok (found_as farm house h)

  -- in good tables: the record that has the name, or none
  module _ (count : ℕ) (good : judged farm house ≡ Ok count) where
    laid_in : (holder : Holder) → (n : ℕ) × Laid (held_by holder farm house) n
    laid_in Farm = let g = both_are farm house good in (g.own, laid farm g.farm_good)
    laid_in House = let g = both_are farm house good in (g.rest, laid house g.house_good)

    module _ (holder : Holder) (e : Entry) (is : sought_in (held_by holder farm house) name ≡ present e) where
      abbrev table : List ℕ
      table = held_by holder farm house

      named : Names farm house name (F (held holder e))
      named =
          let f = found (records_of table) name is in
          let w = wholes (laid_in holder).1 f.0 in
          record {
            holder = holder;
            counted = refl;
            entry = e;
            member = f.0;
            named = f.1;
            place = refl;
            kind = kind_number_lem e.kind w.kind;
            value = sym (own_value holder table e w.starts);
          }

      within : (h : Holder) → counted_in holder ≡ counted_in h → found_start (F (held holder e)) + found_length (F (held holder e)) ≤ length (held_by h farm house)
      within h q =
          let w = wholes (laid_in holder).1 (found (records_of table) name is).0 in
          subst (λ k. found_start (F (held holder e)) + found_length (F (held holder e)) ≤ length (held_by k farm house)) (told_apart holder h q)
          (omega (arith, w.inside, w.name_length_is, w.value_length_is))

    abbrev NoneHas : Type 0
    NoneHas = (holder : Holder) (e : Entry) → Memᴰ e (records_of (held_by holder farm house)) → same_name e.name name ≡ false

    names_in : {h : Holding} → Where farm house name h → found_number (F h) ≡ 0 → Names farm house name (F h)
    names_in (found_in_farm e p) z = named Farm e p
    names_in (found_in_house e n p) z = named House e p
    names_in (in_neither n m) z = absurd (omega arith)

    missed_in : {h : Holding} → Where farm house name h → (found_number (F h) ≡ unknown_name) ↔ NoneHas
    missed_in (found_in_farm e p) = (λ z. absurd (omega arith), λ none. clash (cc (sym p ∙ unmet (records_of farm) name (none Farm))))
    missed_in (found_in_house e n p) = (λ z. absurd (omega arith), λ none. clash (cc (sym p ∙ unmet (records_of house) name (none House))))
    missed_in (in_neither n m) = (λ _. none, λ _. refl)
      where
        none : NoneHas
        none Farm = missed (laid_in Farm).1 name n
        none House = missed (laid_in House).1 name m

    inside_in : {h : Holding} → Where farm house name h → (holder : Holder) → found_number (F h) ≡ 0 → found_counted (F h) ≡ counted_in holder
        → found_start (F h) + found_length (F h) ≤ length (held_by holder farm house)
    inside_in (found_in_farm e p) holder z q = within Farm e p holder q
    inside_in (found_in_house e n p) holder z q = within House e p holder q
    inside_in (in_neither n m) holder z q = omega arith

    hidden_in : {h : Holding} → Where farm house name h → (e : Entry) → Memᴰ e (records_of farm) → same_name e.name name ≡ true
        → (found_number (F h) ≡ 0) × (found_counted (F h) ≡ in_farm) × (found_place (F h) ≡ e.place) × (found_kind (F h) ≡ e.kind)
    hidden_in (found_in_farm f p) e m same =
        let l = (laid_in Farm).1 in
        let one : present f ≡ present e = sym p ∙ sym (same_sought (records_of farm) e.name name same) ∙ own l m in
        let is : f ≡ e = cc in
        let w = wholes l m in
        (refl, refl, ap (λ (x : Entry). x.place) is, ap (λ (x : Entry). kind_number (kind_of x.kind)) is ∙ kind_number_lem e.kind w.kind)
    hidden_in (found_in_house f n p) e m same =
        clash (cc (sym n ∙ sym (same_sought (records_of farm) e.name name same) ∙ own (laid_in Farm).1 m))
    hidden_in (in_neither n k) e m same =
        clash (cc (sym n ∙ sym (same_sought (records_of farm) e.name name same) ∙ own (laid_in Farm).1 m))

  -- a refusal of the tables has a number that is neither 0 nor that of an unknown name
  module _ (b : BadTableOf) (e : judged farm house ≡ Err b) where
    numbered : allowance_spent < refusal_number b.why
    numbered = bad_number farm house b.why b.holder b.at.0 e

    not_misfit : refusal_number b.why ≡ bad_index → ⊥
    not_misfit = not_by_check (subst Within e (judged_within farm house)).2

  abbrev G : Result ℕ BadTableOf → Bool → Found
  G d f = found_by farm house name d f

  known_in : (h : Holding) → (found_number (F h) ≡ 0) ↔ (is_known (F h) ≡ true)
  known_in nowhere = (λ z. absurd (omega arith), λ z. clash (cc))
  known_in (held holder e) = (λ _. refl, λ _. refl)

  known_by : (d : Result ℕ BadTableOf) (f : Bool) → judged farm house ≡ d → (found_number (G d f) ≡ 0) ↔ (is_known (G d f) ≡ true)
  known_by (Ok n) true e = known_in sought
  known_by (Ok n) false e = (λ z. absurd (omega arith), λ z. clash (cc))
  known_by (Err b) f e = (λ z. absurd (omega (arith, numbered b e)), λ z. clash (cc))

  names_by : (d : Result ℕ BadTableOf) (f : Bool) → judged farm house ≡ d → found_number (G d f) ≡ 0 → Names farm house name (G d f)
  names_by (Ok n) true e z = names_in n e (sought_where farm house name) z
  names_by (Ok n) false e z = absurd (omega arith)
  names_by (Err b) f e z = absurd (omega (arith, numbered b e))

  inside_by : (d : Result ℕ BadTableOf) (f : Bool) → judged farm house ≡ d → (holder : Holder) → found_number (G d f) ≡ 0 → found_counted (G d f) ≡ counted_in holder
      → found_start (G d f) + found_length (G d f) ≤ length (held_by holder farm house)
  inside_by (Ok n) true e holder z q = inside_in n e (sought_where farm house name) holder z q
  inside_by (Ok n) false e holder z q = omega arith
  inside_by (Err b) f e h z q = omega arith

  abbrev Bare : Found → Type 0
  Bare r =
      (found_number r ≡ 0 → ⊥) → (found_kind r ≡ 0) × (found_start r ≡ 0) × (found_length r ≡ 0)
      × (found_number r ≡ unknown_name → (found_counted r ≡ in_text) × (found_place r ≡ 0))

  bare_in : (h : Holding) → Bare (F h)
  bare_in nowhere n = (refl, refl, refl, λ _. (refl, refl))
  bare_in (held holder e) n = absurd (n refl)

  bare_by : (d : Result ℕ BadTableOf) (f : Bool) → judged farm house ≡ d → Bare (G d f)
  bare_by (Ok n) true e = bare_in sought
  bare_by (Ok n) false e = λ _. (refl, refl, refl, λ z. absurd (omega arith))
  bare_by (Err b) f e = λ _. (refl, refl, refl, λ z. absurd (omega (arith, z, numbered b e)))

  -- what holds of both tables and of the index, and something more
  module _ (given : Given) where
    abbrev Sound : Bool → Type 0 → Type 0
    Sound fit More = (check_number (checked farm) ≡ 0) × (check_number (checked house) ≡ 0) × (fits given house ≡ fit) × More

    -- where the tables and the index are found so
    module _ {n : ℕ} (e : judged farm house ≡ Ok n) {fit : Bool} (q : fits given house ≡ fit) where
      sound : {More : Type 0} → More → Sound fit More
      sound m = let g = both_are farm house e in (ap check_number g.farm_good, ap check_number g.house_good, q, m)

    -- tables that are refused are not both good
    no_good : {b : BadTableOf} {A : Type 0} → judged farm house ≡ Err b
        → check_number (checked farm) ≡ 0 → check_number (checked house) ≡ 0 → A
    no_good e f h = clash (cc (sym e ∙ (both_so farm house f h).1))

    missed_by : (d : Result ℕ BadTableOf) (f : Bool) → judged farm house ≡ d → fits given house ≡ f
        → (found_number (G d f) ≡ unknown_name)
        ↔ Sound true ((holder : Holder) (e : Entry) → Memᴰ e (records_of (held_by holder farm house)) → same_name e.name name ≡ false)
    missed_by (Ok n) true e q =
        let m = missed_in n e (sought_where farm house name) in
        (λ z. sound e q (m.0 z), λ h. m.1 h.3)
    missed_by (Ok n) false e q = (λ z. absurd (omega arith), λ h. absurd (true≢false (sym h.2 ∙ q)))
    missed_by (Err b) f e q = (λ z. absurd (omega (arith, numbered b e)), λ h. no_good e h.0 h.1)

    -- a record that has the name is found
    found_so : {n : ℕ} → judged farm house ≡ Ok n → HasIt farm house name → {h : Holding} → Where farm house name h → found_number (F h) ≡ 0
    found_so e i (found_in_farm x p) = refl
    found_so e i (found_in_house x n p) = refl
    found_so e i (in_neither n m) =
        let none : (holder : Holder) (x : Entry) → Memᴰ x (records_of (held_by holder farm house)) → same_name x.name name ≡ false =
        (missed_in _ e (in_neither n m)).0 refl in
        absurd (true≢false (sym i.named ∙ none i.holder i.entry i.member))

    has : {d : Found} → Names farm house name d → HasIt farm house name
    has n = record { holder = n.holder; entry = n.entry; member = n.member; named = n.named }

    has_by : (d : Result ℕ BadTableOf) (f : Bool) → judged farm house ≡ d → fits given house ≡ f → (found_number (G d f) ≡ 0) ↔ Sound true (HasIt farm house name)
    has_by (Ok n) true e q = (λ z. sound e q (has (names_by (Ok n) true e z)), λ h. found_so e h.3 (sought_where farm house name))
    has_by (Ok n) false e q = (λ z. absurd (omega arith), λ h. absurd (true≢false (sym h.2 ∙ q)))
    has_by (Err b) f e q = (λ z. absurd (omega (arith, numbered b e)), λ h. no_good e h.0 h.1)

    abbrev Misfits : Found → Type 0
    Misfits r =
        ((found_number r ≡ bad_index) ↔ ((check_number (checked farm) ≡ 0) × (check_number (checked house) ≡ 0) × (fits given house ≡ false)))
        × (found_number r ≡ bad_index → (found_counted r ≡ in_index) × (found_place r ≡ 0))

    known_fits : (h : Holding) → found_number (F h) ≡ bad_index → ⊥
    known_fits nowhere z = omega arith
    known_fits (held holder e) z = omega arith

    misfit_by : (d : Result ℕ BadTableOf) (f : Bool) → judged farm house ≡ d → fits given house ≡ f → Misfits (G d f)
    misfit_by (Ok n) false e q = (
      (λ z. let g = both_are farm house e in (ap check_number g.farm_good, ap check_number g.house_good, q), λ _. refl),
      λ _. (refl, refl),
    )
    misfit_by (Ok n) true e q = (
      (λ z. absurd (known_fits sought z), λ h. absurd (true≢false (sym q ∙ h.2))),
      λ z. absurd (known_fits sought z),
    )
    misfit_by (Err b) f e q = (
      (λ z. absurd (not_misfit b e z), λ h. no_good e h.0 h.1),
      λ z. absurd (not_misfit b e z),
    )

    defined : G (judged farm house) (fits given house) ≡ looked_up farm house given name
    unfolding looked_up
    defined = refl

    -- what holds of an answer by what was judged holds of the look-up's
    as_judged : (P : Found → Type 0) (r : Found) → r ≡ looked_up farm house given name → P (G (judged farm house) (fits given house)) → P r
    as_judged P r e p = subst P (defined ∙ sym e) p

pub look_up_accepts : LookUpAccepts
look_up_accepts farm house given name r c =
    as_judged farm house name given (λ r. (found_number r ≡ 0) ↔ (is_known r ≡ true)) r c.answer (known_by farm house name (judged farm house) (fits given house) refl)

pub judges : Judges
judges farm house given name r why holder place c e =
    let refused-so = (refused [] farm house why holder place e).1 in
    let is : r ≡ found_by farm house name (bad_table_at why holder place) (fits given house) =
    c.answer ∙ sym (defined farm house name given) ∙ ap (λ d. found_by farm house name d (fits given house)) refused-so in
    (ap found_number is, ap found_counted is, ap found_place is)

pub finds : Finds
finds farm house given name r c =
    as_judged farm house name given (λ r. found_number r ≡ 0 → Names farm house name r) r c.answer (names_by farm house name (judged farm house) (fits given house) refl)

pub known : Known
known farm house given name r c =
    as_judged farm house name given (λ r. (found_number r ≡ 0) ↔ Sound farm house name given true (HasIt farm house name)) r c.answer
    (has_by farm house name given (judged farm house) (fits given house) refl refl)

pub hides : Hides
hides farm house given name r e c f h fit m same =
    let good = both_so farm house f h in
    let is : found_by farm house name (Ok good.0) true ≡ r =
    ap₂ (found_by farm house name) (sym good.1) (sym fit) ∙ defined farm house name given ∙ sym c.answer in
    subst (λ r. (found_number r ≡ 0) × (found_counted r ≡ in_farm) × (found_place r ≡ e.place) × (found_kind r ≡ e.kind)) is
    (hidden_in farm house name good.0 good.1 (sought_where farm house name) e m same)

pub misses : Misses
misses farm house given name r c =
    as_judged farm house name given
    (λ r. (found_number r ≡ unknown_name)
    ↔ Sound farm house name given true ((holder : Holder) (e : Entry) → Memᴰ e (records_of (held_by holder farm house)) → same_name e.name name ≡ false))
    r c.answer (missed_by farm house name given (judged farm house) (fits given house) refl refl)

pub misfits : BadIndex
misfits farm house given name r c =
    as_judged farm house name given (Misfits farm house name given) r c.answer (misfit_by farm house name given (judged farm house) (fits given house) refl refl)

pub refused_bare : Refused
refused_bare farm house given name r c =
    as_judged farm house name given (Bare farm house name) r c.answer (bare_by farm house name (judged farm house) (fits given house) refl)

pub through : Through
unfolding looked_up
through farm house given name r r' fit c c' = c.answer ∙ ap (found_by farm house name (judged farm house)) fit ∙ sym c'.answer

pub inside : Inside
inside farm house given name r holder c =
    as_judged farm house name given
    (λ (f : Found). found_number f ≡ 0 → found_counted f ≡ counted_in holder → found_start f + found_length f ≤ length (held_by holder farm house))
    r c.answer (inside_by farm house name (judged farm house) (fits given house) refl holder)

-- the part of what was found, by the table that it is counted in
part_of : (farm house : List ℕ) (r : Found)
    → ((holder : Holder) → found_number r ≡ 0 → found_counted r ≡ counted_in holder
    → value_part farm house r ≡ take (found_length r) (drop (found_start r) (held_by holder farm house)))
    × ((found_number r ≡ 0 → ⊥) → value_part farm house r ≡ [])
part_of farm house (Ok (Some v)) = (
  λ holder z q. ap (λ h. take v.length (drop v.start (held_by h farm house))) (told_apart v.holder holder q),
  λ n. absurd (n refl),
)
part_of farm house (Ok None) = (λ holder z q. absurd (omega arith), λ _. refl)
part_of farm house (Err (Table b)) = (λ h z q. refl, λ _. refl)
part_of farm house (Err Index) = (λ h z q. refl, λ _. refl)

pub part : Part
part farm house given name handed r c p =
    let same : handed ≡ value_part farm house r = p.answer ∙ ap (value_part farm house) (sym c.answer) in
    let o = part_of farm house r in
    (λ holder z q. same ∙ o.0 holder z q, λ n. same ∙ o.1 n)
