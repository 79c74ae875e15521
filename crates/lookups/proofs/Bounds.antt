-- Every answer to a look-up has a number that is listed, a place up to 65,535, a kind up to 2, and a value of up to 255 bytes.
use mathlib.Core.Bool.{Bool, true, false}
use mathlib.Core.List.Memᴰ
use mathlib.Core.List.Memᴰ.{head}
use mathlib.Core.List.Memᴰ.{tail}
use mathlib.Core.List.{List, [], ◌∷◌, Memᴰ}
use mathlib.Core.Path.{◌≡◌, refl, subst}
use Prim.Native.Nat.{ℕ, ◌+◌, ◌≤◌}
use native.Mathlib.Omega.{arith}
use Rattle.paper.specs.Refusals.{unknown_name, bad_index, longest}
use Rattle.paper.specs.declared.Holder.{Holder}
use Rattle.paper.specs.declared.Holder.TheVariants.{Farm, House}
use Rattle.records.specs.Kinds.{kind_of}
use Rattle.records.proofs.KindLaws.{kind_bounded}
use Rattle.variables.specs.Tables.{Sought, absent, present, records_of, sought_in}
use Rattle.variables.specs.Holdings.{held_by, Holding, nowhere, held, held_in, or_else, sought_in_both}
use Rattle.variables.specs.Judgements.{judged}
use Rattle.std.specs.Prelude.{Result, Ok, Err}
use Rattle.paper.specs.declared.refusals.BadTableOf.{BadTableOf}
use Rattle.variables.proofs.Bounds.{Within, judged_within, AllBytes}
use Rattle.variables.proofs.Good.{Laid, laid, wholes}
use Rattle.variables.proofs.Judging.{both_are}
use Rattle.variables.proofs.Lines.{or_nowhere}
use Rattle.variables.proofs.Unique.{found}
use Rattle.indexes.specs.Indexes.{Given, fits}
use Rattle.lookups.specs.Lookups.{Found, found_as, found_by, looked_up, found_number, found_place, found_kind, found_length, look_up_numbers}

pub record FoundBounded (r : Found) : Type 0 where
  pub number : found_number r ≤ 255
  pub place : found_place r ≤ longest
  pub kind : found_kind r ≤ 2
  pub listed : Memᴰ (found_number r) look_up_numbers

-- a look-up in a table that is known to be good
in_good :
    {n : ℕ} (holder : Holder) (farm house name : List ℕ) → Laid (held_by holder farm house) n → (second : Holding) →
    FoundBounded (Ok (found_as farm house second)) →
    FoundBounded (Ok (found_as farm house (or_else (held_in holder (sought_in (held_by holder farm house) name)) second)))
in_good holder farm house name l second b = go (sought_in (held_by holder farm house) name) refl where
  go : (m : Sought) → sought_in (held_by holder farm house) name ≡ m → FoundBounded (Ok (found_as farm house (or_else (held_in holder m) second)))
  go absent q = b
  go (present e) q =
      let w = wholes l (found (records_of (held_by holder farm house)) name q).0 in
      let s = l.short in
      record { number = omega arith; place = omega arith; kind = kind_bounded (kind_of e.kind); listed = head refl }

-- a look-up in any bytes
pub looked_up_bounded : (farm house : List ℕ) (given : Given) (name : List ℕ) → FoundBounded (looked_up farm house given name)
unfolding looked_up
looked_up_bounded farm house given name = go (judged farm house) (fits given house) refl
  where
    unknown : FoundBounded (Ok (found_as farm house nowhere))
    unknown = record { number = omega arith; place = omega arith; kind = omega arith; listed = tail (tail (tail (tail (head refl)))) }

    go : (r : Result ℕ BadTableOf) (fit : Bool) → judged farm house ≡ r → FoundBounded (found_by farm house name r fit)
    go (Err bad) fit e =
        let w = subst Within e (judged_within farm house) in
        record { number = w.0; place = w.1; kind = omega arith; listed = Memᴰ.append_left (bad_index ∷ unknown_name ∷ []) w.2 }
    go (Ok count) false e = record { number = omega arith; place = omega arith; kind = omega arith; listed = tail (tail (tail (head refl))) }
    go (Ok count) true e =
        let g = both_are farm house e in
        in_good Farm farm house name (laid farm g.farm_good) (held_in House (sought_in house name))
        (subst (λ h. FoundBounded (Ok (found_as farm house h))) (or_nowhere (held_in House (sought_in house name)))
        (in_good House farm house name (laid house g.house_good) nowhere unknown))

-- so a value that is found has 255 of them at most
pub value_short : (farm house : List ℕ) (given : Given) (name : List ℕ) → AllBytes farm house → found_length (looked_up farm house given name) ≤ 255
unfolding looked_up
value_short farm house given name bytes = by_judged (judged farm house) (fits given house)
  where
    sought_short : (h : Holding) → found_length (Ok (found_as farm house h)) ≤ 255
    sought_short nowhere = omega arith
    sought_short (held holder e) = bytes holder (e.place + 4)

    by_judged : (r : Result ℕ BadTableOf) (fit : Bool) → found_length (found_by farm house name r fit) ≤ 255
    by_judged (Ok count) false = omega arith
    by_judged (Ok count) true = sought_short (sought_in_both farm house name)
    by_judged (Err bad) fit = omega arith
