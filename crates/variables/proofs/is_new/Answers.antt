-- `is_new` meets its contract: a look-up among the records before comes to nothing where none of them has an equal name, and it need not
-- be made where none of them has the name's note.
use mathlib.Core.Bool.{Bool, true, false, not}
use mathlib.Core.List.{List}
use mathlib.Core.Path.{◌≡◌, refl, ap, sym, ◌∙◌}
use Prim.Native.Nat.{ℕ}
use native.Mathlib.Omega.{arith}
use lib.ListN.{length}
use Rattle.paper.specs.declared.Holder.{Holder}
use Rattle.paper.specs.declared.bits.Bits.{Bits}
use Rattle.records.specs.Records.{name_at}
use Rattle.records.specs.inner.Keys.{key_of}
use Rattle.std.specs.Prelude.{is_none}
use Rattle.variables.specs.Tables.{Sought, absent, present, sought, is_absent, before, is_new}
use Rattle.variables.specs.Holdings.{held_in}
use Rattle.variables.specs.inner.Keys.{sought_by, Without, match_as}
use Rattle.variables.specs.inner.Notes.{noted, Earlier}
use Rattle.variables.proofs.Lines.{unmet, passed_over, by_own}
use Rattle.variables.proofs.NoteLaws.{other_keys}
use Rattle.variables.proofs.is_new.Goals as goal

flipped : (b : Bool) {a : Bool} → a ≡ not b → b ≡ not a
flipped true e = ap not (sym e)
flipped false e = ap not (sym e)

none_found : (table : List ℕ) (holder : Holder) (m : Sought) → is_none (match_as table table (held_in holder m)) ≡ is_absent m
none_found table holder absent = refl
none_found table holder (present e) = refl

module _ (table : List ℕ) (place : ℕ) (keys : List ℕ) (notes : Bits 64) (line : ℕ) (e : Earlier table place keys notes line) where
  -- a look-up by the lines before tells
  known : is_none (match_as table table (sought_by table table keys (name_at table place))) ≡ is_new table place
  known =
      ap (λ h. is_none (match_as table table h)) (by_own table (name_at table place) place e.own)
      ∙ none_found table e.own.0 (sought (before table place) (name_at table place))

  -- and finds nothing where the note is not there
  unnoted : noted notes line ≡ false → true ≡ is_new table place
  unnoted m =
      let name : List ℕ = name_at table place in
      let others : Without (key_of name) keys (length keys) =
      record { inside = omega arith; passes = λ k h same. other_keys notes keys (length keys) line e.all_noted m k h (same ∙ sym e.key) } in
      let none = passed_over table table keys name (length keys) others ∙ unmet table table keys name (length keys) (omega arith) in
      ap (λ h. is_none (match_as table table h)) (sym none) ∙ known

pub returns-then-is_noted : goal.returns-then-is_noted
returns-then-is_noted c =
    let f = c.before in
    let s = f.before.before.before.before.before.before in
    let table = s.args.table.now in
    flipped c.is_none.result c.is_none.ensures
    ∙ ap is_none (f.find.ensures ∙ ap (λ n. match_as table table (sought_by table table s.args.keys.now n)) f.name_at.ensures)
    ∙ known _ _ _ _ _ s.requires

pub returns : goal.returns
returns c =
    let m = c.before in
    unnoted _ _ _ _ _ m.requires (sym m.is_noted.ensures ∙ c.if-is_noted.false)
