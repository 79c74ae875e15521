-- What each kind of reference gives: how far it comes, as a piece of the reading.
use mathlib.Core.Path.{◌≡◌, refl, ap, sym, subst, subst₂}
use mathlib.Core.List.{List, [], ◌∷◌}
use Prim.Native.Nat.{ℕ, suc, ◌+◌, ◌-◌, ◌≤◌}
use native.Mathlib.Omega.{arith}
use lib.ListN.{length, drop, length-take}
use Rattle.std.specs.Prelude.{Result, Ok, Err}
use Rattle.paper.specs.Refusals.{refusal_number}
use Rattle.paper.specs.declared.TextPlace.{TextPlace}
use Rattle.paper.specs.declared.refusals.Refusal.{Refusal}
use Rattle.paper.specs.declared.refusals.Refusal.TheVariants as Why
use Rattle.paper.specs.declared.refusals.Refused.{Refused}
use Rattle.paper.specs.Traces.{Trace, asks, spends, bytes, refused, run, onward}
use Rattle.records.specs.Kinds.{pattern}
use Rattle.variables.specs.Names.{Meaning}
use Rattle.forms.specs.Calls.{decimal_of}
use Rattle.variables.specs.Holdings.{held_by, part_of}
use Rattle.gs.specs.Readings.{Expand, gives_all, whole_text, expands}
use Rattle.gs.specs.inner.Steps.{Laid, Came, came_going, came_refused, Read, read_ended, read_refused, piece_of, length_in}
use Rattle.references.specs.declared.Referred.{Referred}
use Rattle.references.specs.declared.Referred.TheVariants.{Number, CodeOver255, TooBig, Unknown, Text, Integer, Macro}
use Rattle.gs.specs.declared.steps.Carried.{Carried}
use Rattle.gs.specs.declared.steps.Expanded.{Expanded}
use Rattle.records.specs.declared.Variable.{Variable}

-- a refusal where the reference stands
abbrev pub refused_here : TextPlace → Refusal → Result Carried Refused
refused_here at why = Err (record { why = why; at = at })

-- how far a macro's reference came, by how far its value did: a refusal inside it has the place of its "<"
abbrev pub from_value : TextPlace → Result Expanded Refused → Result Carried Refused
from_value at (Ok inner) = Ok inner.carried
from_value at (Err inner) = Err (record { why = inner.why; at = at })

module _ (farm house : List ℕ) (referred : Referred) (name : List ℕ) (left : ℕ) (at : TextPlace) (to : ℕ) (out : List ℕ) where
  module _ (expand : Expand) where
    abbrev Gives : List ℕ → Result Carried Refused → Type 0
    Gives after r = Came (piece_of farm house expand referred name at.0) left to out after r

    number_from : (b : ℕ) (after : List ℕ) → Laid out to (b ∷ []) after
        → Came (piece_of farm house expand (Number b) name at.0) left to out after (Ok (record { to = to + 1; left = left }))
    unfolding piece_of
    number_from b after laid = came_going left (b ∷ []) (record { runs = λ rest. refl; gives = λ rest. refl; small = omega arith }) laid

    pub number_gives : (b : ℕ) (after : List ℕ) → referred ≡ Number b → Laid out to (b ∷ []) after → Gives after (Ok (record { to = to + 1; left = left }))
    number_gives b after e laid =
        subst (λ r. Came (piece_of farm house expand r name at.0) left to out after (Ok (record { to = to + 1; left = left }))) (sym e) (number_from b after laid)

    -- what is refused for what it stands for, whatever is left
    refused_from : (k : Referred) (why : Refusal) → ((rest : Trace) → run (piece_of farm house expand k name at.0 rest) left ≡ refused (refusal_number why) at.0)
        → referred ≡ k → Gives out (refused_here at why)
    refused_from k why runs e =
        subst (λ k. Came (piece_of farm house expand k name at.0) left to out out (refused_here at why)) (sym e) (came_refused (record { why = why; at = at }) refl runs)

    pub over_gives : referred ≡ CodeOver255 → Gives out (refused_here at Why.CodeOver255)
    unfolding piece_of
    over_gives = refused_from CodeOver255 Why.CodeOver255 (λ rest. refl)

    pub too_big_gives : referred ≡ TooBig → Gives out (refused_here at Why.TooBig)
    unfolding piece_of
    too_big_gives = refused_from TooBig Why.TooBig (λ rest. refl)

    pub unknown_gives : referred ≡ Unknown → Gives out (refused_here at Why.UnknownName)
    unfolding piece_of
    unknown_gives = refused_from Unknown Why.UnknownName (λ rest. refl)

    text_from : (v : Variable) (after : List ℕ) (r : Result Carried Refused)
        → Came (λ rest. asks name (spends at.0 (gives_all (part_of farm house v) rest))) left to out after r → Came (piece_of farm house expand (Text v) name at.0) left to out after r
    unfolding piece_of
    text_from v after r c = c

    pub text_gives : (v : Variable) (value after : List ℕ) (r : Result Carried Refused) → referred ≡ Text v → value ≡ part_of farm house v
        → Came (λ rest. asks name (spends at.0 (gives_all value rest))) left to out after r → Gives after r
    text_gives v value after r e p c =
        subst (λ k. Came (piece_of farm house expand k name at.0) left to out after r) (sym e)
        (text_from v after r (subst (λ bs. Came (λ rest. asks name (spends at.0 (gives_all bs rest))) left to out after r) p c))

    integer_from : (v : Variable) (after : List ℕ) (r : Result Carried Refused)
        → Came (λ rest. asks name (spends at.0 (gives_all (decimal_of (pattern (part_of farm house v))) rest))) left to out after r
        → Came (piece_of farm house expand (Integer v) name at.0) left to out after r
    unfolding piece_of
    integer_from v after r c = c

    pub integer_gives : (v : Variable) (value after : List ℕ) (r : Result Carried Refused) → referred ≡ Integer v → value ≡ part_of farm house v
        → Came (λ rest. asks name (spends at.0 (gives_all (decimal_of (pattern value)) rest))) left to out after r → Gives after r
    integer_gives v value after r e p c =
        subst (λ k. Came (piece_of farm house expand k name at.0) left to out after r) (sym e)
        (integer_from v after r (subst (λ bs. Came (λ rest. asks name (spends at.0 (gives_all (decimal_of (pattern bs)) rest))) left to out after r) p c))

    macro_from : (v : Variable) (after : List ℕ) (r : Result Carried Refused)
        → Came (λ rest. asks name (expand name at.0 (part_of farm house v) rest)) left to out after r → Came (piece_of farm house expand (Macro v) name at.0) left to out after r
    unfolding piece_of
    macro_from v after r c = c

    pub macro_gives : (v : Variable) (value after : List ℕ) (r : Result Carried Refused) → referred ≡ Macro v → value ≡ part_of farm house v
        → Came (λ rest. asks name (expand name at.0 value rest)) left to out after r → Gives after r
    macro_gives v value after r e p c =
        subst (λ k. Came (piece_of farm house expand k name at.0) left to out after r) (sym e)
        (macro_from v after r (subst (λ bs. Came (λ rest. asks name (expand name at.0 bs rest)) left to out after r) p c))

-- a value is no longer than its variable says
pub part_short : (farm house value : List ℕ) (referred : Referred) (v : Variable) → referred ≡ Macro v → value ≡ part_of farm house v → length_in referred ≤ 255 → length value ≤ 255
part_short farm house value referred v macro e small =
    let short : v.length ≤ 255 = subst (λ r. length_in r ≤ 255) macro small in
    omega (arith, ap length e, short, length-take v.length (drop v.start (held_by v.holder farm house)))

-- what a macro's value gives
module _ (names : List ℕ → Meaning) (levels : ℕ) (value name : List ℕ) (left : ℕ) (at : TextPlace) (to : ℕ) (out : List ℕ) where
  abbrev Spells : ℕ → ℕ → List ℕ → Result Carried Refused → Type 0
  Spells levels left after r = Came (λ rest. asks name (expands names levels name at.0 value rest)) left to out after r

  deep_from : Spells 0 left out (refused_here at Why.TooDeep)
  unfolding expands
  deep_from = came_refused (record { why = Why.TooDeep; at = at }) refl (λ rest. refl)

  pub too_deep_gives : levels ≡ 0 → Spells levels left out (refused_here at Why.TooDeep)
  too_deep_gives z = subst (λ l. Spells l left out (refused_here at Why.TooDeep)) (sym z) deep_from

  spent_from : (l : ℕ) → Spells (suc l) 0 out (refused_here at Why.AllowanceSpent)
  unfolding expands
  spent_from l = came_refused (record { why = Why.AllowanceSpent; at = at }) refl (λ rest. refl)

  pub spent_gives : (levels ≡ 0 → ⊥) → left ≡ 0 → Spells levels left out (refused_here at Why.AllowanceSpent)
  spent_gives n z =
      let up : suc (levels - 1) ≡ levels = omega arith in
      subst₂ (λ l f. Spells l f out (refused_here at Why.AllowanceSpent)) up (sym z) (spent_from (levels - 1))

  value_from : (l m : ℕ) (after : List ℕ) (came : Result Expanded Refused) → length value ≤ 255
      → Read (whole_text names (expands names l) value 0) (length value) m to out after came
      → Spells (suc l) (suc m) after (from_value at came)
  unfolding expands
  value_from l m after came short (read_ended end left' runs small laid) =
      came_going left' (bytes (whole_text names (expands names l) value 0))
      (record { runs = λ rest. ap (λ r. onward r at.0 (run rest)) runs; gives = λ rest. refl; small = omega arith })
      laid
  value_from l m after came short (read_refused inner long runs) =
      came_refused (record { why = inner.why; at = at }) long (λ rest. ap (λ r. onward r at.0 (run rest)) runs)

  pub value_gives : (after : List ℕ) (flags : ℕ) (came came' : Result Expanded Refused) → length value ≤ 255 → (levels ≡ 0 → ⊥) → (left ≡ 0 → ⊥) → flags ≡ 0
      → Read (whole_text names (expands names (levels - 1)) value flags) (length value) (left - 1) to out after came
      → came ≡ came' → Spells levels left after (from_value at came')
  value_gives after flags came came' short n f none read is =
      let up : suc (levels - 1) ≡ levels = omega arith in
      let more : suc (left - 1) ≡ left = omega arith in
      let plain = subst (λ f. Read (whole_text names (expands names (levels - 1)) value f) (length value) (left - 1) to out after came) none read in
      subst₂ (λ l f. Spells l f after (from_value at came')) up more
      (subst (λ c. Spells (suc (levels - 1)) (suc (left - 1)) after (from_value at c)) is (value_from (levels - 1) (left - 1) after came short plain))
