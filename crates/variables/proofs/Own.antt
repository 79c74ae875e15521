-- A record that a name means is the table's own at its place, in any bytes.
use mathlib.Core.List.{List}
use mathlib.Core.Path.{◌≡◌, refl, ap, sym, subst, ◌∙◌}
use Prim.Native.Nat.{ℕ, zero, suc}
use lib.Dec.{ltb}
use lib.ListN.{length}
use Rattle.paper.specs.declared.Holder.{Holder}
use Rattle.paper.specs.declared.Holder.TheVariants.{Farm, House}
use Rattle.paper.proofs.Choice.{either, clash}
use Rattle.records.specs.Records.{Entry, next_place, entry_at, same_name}
use Rattle.variables.specs.Tables.{most, entries, Sought, absent, present, sought, sought_in}
use Rattle.variables.specs.Holdings.{held_by, Holding, nowhere, held, held_in, or_else, sought_in_both}
use Rattle.variables.proofs.Lines.{or_nowhere}

pub record Own (table : List ℕ) (m : Sought) : Type 0 where
  pub own : (e : Entry) → m ≡ present e → e ≡ entry_at table e.place

own_absent : (table : List ℕ) → Own table absent
own_absent table = record { own = λ e p. clash (cc) }

own_here : (table : List ℕ) (place : ℕ) → Own table (present (entry_at table place))
unfolding entry_at
own_here table place = record { own = λ e p. here e p }
  where
    here : (e : Entry) → present (entry_at table place) ≡ present e → e ≡ entry_at table e.place
    here e p =
        let q : entry_at table place ≡ e = cc in
        sym q ∙ ap (λ (f : Entry). entry_at table f.place) q

entries_own : (left : ℕ) (table name : List ℕ) (stop place : ℕ) → Own table (sought (entries left table stop place) name)
unfolding sought entries
entries_own zero table name stop place = own_absent table
entries_own (suc left) table name stop place =
    either (λ es. Own table (sought es name)) (ltb place stop)
    (λ _. either (Own table) (same_name (entry_at table place).name name) (λ _. own_here table place)
    (λ _. entries_own left table name stop (next_place table place)))
    (λ _. own_absent table)

pub sought_own : (table name : List ℕ) → Own table (sought_in table name)
sought_own table name = entries_own most table name (length table) 0

-- and so it is in whichever of two tables holds it
pub record OwnHeld (farm house : List ℕ) (h : Holding) : Type 0 where
  pub own : (holder : Holder) (e : Entry) → h ≡ held holder e → e ≡ entry_at (held_by holder farm house) e.place

or_else_own :
    (farm house : List ℕ) (holder : Holder) (m : Sought) (second : Holding) → Own (held_by holder farm house) m → OwnHeld farm house second →
    OwnHeld farm house (or_else (held_in holder m) second)
or_else_own farm house holder absent second o os = os
or_else_own farm house holder (present e) second o os = record { own = λ h f p. here h f p }
  where
    here : (h : Holder) (f : Entry) → held holder e ≡ held h f → f ≡ entry_at (held_by h farm house) f.place
    here h f p =
        let same_holder : holder ≡ h = cc in
        let same : e ≡ f = cc in
        rw (← same_holder, ← same) (o.own e refl)

pub both_own : (farm house name : List ℕ) → OwnHeld farm house (sought_in_both farm house name)
both_own farm house name =
    or_else_own farm house Farm (sought_in farm name) (held_in House (sought_in house name)) (sought_own farm name)
    (subst (OwnHeld farm house) (or_nowhere (held_in House (sought_in house name)))
    (or_else_own farm house House (sought_in house name) nowhere (sought_own house name) (record { own = λ h e p. clash (cc) })))

-- where a name is found: in the farm's table, or in the house's and not in the farm's, or in neither
pub data Where (farm house name : List ℕ) : Holding → Type 0 where
  in_farm : (e : Entry) → sought_in farm name ≡ present e → Where farm house name (held Farm e)
  in_house : (e : Entry) → sought_in farm name ≡ absent → sought_in house name ≡ present e → Where farm house name (held House e)
  in_neither : sought_in farm name ≡ absent → sought_in house name ≡ absent → Where farm house name nowhere

pub sought_where : (farm house name : List ℕ) → Where farm house name (sought_in_both farm house name)
sought_where farm house name = go (sought_in farm name) (sought_in house name) refl refl
  where
    go : (f h : Sought) → sought_in farm name ≡ f → sought_in house name ≡ h → Where farm house name (or_else (held_in Farm f) (held_in House h))
    go (present e) h p q = in_farm e p
    go absent (present e) p q = in_house e p q
    go absent absent p q = in_neither p q
