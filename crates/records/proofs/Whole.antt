-- A record of the right shape is whole: what the tests of its shape say of its parts. And what is handed out as a record's value.
use mathlib.Core.Bool.{Bool, true, ◌&&◌, and-eq-true_iff}
use mathlib.Core.List.{List}
use mathlib.Core.Path.{◌≡◌, refl, ap, ◌∙◌}
use Prim.Native.Nat.{ℕ, ◌+◌, ◌≤◌}
use native.Mathlib.Omega.{arith}
use borrow.Author.Tests.{leb-true, eqb-true, eq-eqb}
use lib.Dec.{leb, eqb}
use lib.ListN.{length, get_or, take, drop, length-drop}
use lib.Seq.{length-take-le}
use Rattle.paper.specs.declared.Holder.{Holder}
use Rattle.records.specs.Records.{kind_at, name_length, value_length, value_start, next_place, name_at, value_at, all_name_bytes, fitting, headed, sized, shaped, Entry, entry_at}
use Rattle.records.specs.Kinds.{variable_at}

-- a record of the right shape: the mark, kinds 0 to 2, a name of 1 to 32 bytes, an integer of 4 bytes, and every part inside the slice
pub record Whole (table : List ℕ) (e : Entry) : Type 0 where
  pub starts : e ≡ entry_at table e.place
  pub mark_first : get_or table e.place 0 ≡ 86
  pub mark_second : get_or table (e.place + 1) 0 ≡ 82
  pub kind : e.kind ≤ 2
  pub name_from : 1 ≤ length e.name
  pub name_to : length e.name ≤ 32
  pub allowed : all_name_bytes e.name ≡ true
  pub integer : e.kind ≡ 1 → length e.value ≡ 4
  pub inside : e.place + 5 + length e.name + length e.value ≤ length table
  pub name_length_is : length e.name ≡ name_length table e.place
  pub value_length_is : length e.value ≡ value_length table e.place

both : (a : Bool) {b : Bool} → (a && b) ≡ true → (a ≡ true) × (b ≡ true)
both a {b} e = (and-eq-true_iff a b).0 e

module _ (table : List ℕ) (place : ℕ) where
  pub shaped_whole : shaped table place ≡ true → Whole table (entry_at table place)
  unfolding headed sized fitting name_at value_at entry_at
  shaped_whole e =
      let h = both (headed table place) e in
      let s = both (sized table place) h.1 in
      let first = both (eqb (get_or table place 0) 86) h.0 in
      let m = both (eqb (get_or table (place + 1) 0) 82) first.1 in
      let n = both (leb 1 (name_length table place)) s.0 in
      let t = both (leb (name_length table place) 32) n.1 in
      let f = both (fitting (kind_at table place) (value_length table place)) t.1 in
      let from : 1 ≤ name_length table place = leb-true _ _ n.0 in
      let to : name_length table place ≤ 32 = leb-true _ _ t.0 in
      let inside : next_place table place ≤ length table = leb-true _ _ f.1 in
      let to-name = length-drop (place + 5) table in
      let to-value = length-drop (value_start table place) table in
      let name = length-take-le (name_length table place) (drop (place + 5) table) (omega arith) in
      let value = length-take-le (value_length table place) (drop (value_start table place) table) (omega arith) in
      record {
        starts = refl;
        mark_first = eqb-true _ _ first.0;
        mark_second = eqb-true _ _ m.0;
        kind = leb-true _ _ m.1;
        name_from = omega arith;
        name_to = omega arith;
        allowed = s.1;
        integer = λ k. value ∙ eqb-true _ _ (rw (eq-eqb (kind_at table place) 1 k) at f.0);
        inside = omega arith;
        name_length_is = name;
        value_length_is = value;
      }

-- the part that is handed out for a record is its value
pub own_value : (holder : Holder) (table : List ℕ) (e : Entry) → e ≡ entry_at table e.place
    → e.value ≡ take (variable_at holder table e).length (drop (variable_at holder table e).start table)
unfolding entry_at value_at
own_value holder table e h = ap (λ (f : Entry). f.value) h
