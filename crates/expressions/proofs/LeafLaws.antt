-- What a leaf is evaluated to is what its tree is: a number, and a name by the tables' own keys.
use mathlib.Core.List.{List}
use mathlib.Core.Path.{◌≡◌, refl, ap, sym, ◌∙◌}
use Prim.Native.Nat.{ℕ, zero, suc, ◌-◌}
use native.Mathlib.Omega.{arith}
use Rattle.paper.specs.Traces.{run, ended}
use Rattle.paper.proofs.Choice.{other}
use Rattle.records.specs.Kinds.{kind_of, variable_at, pattern}
use Rattle.records.specs.declared.Variable.{Variable}
use Rattle.records.specs.declared.kinds.Kind.{Kind}
use Rattle.records.specs.declared.kinds.Kind.TheVariants.{Text, Integer, Macro}
use Rattle.records.proofs.Whole.{own_value}
use Rattle.variables.specs.Holdings.{held_by, Holding, nowhere, held, sought_in_both}
use Rattle.variables.specs.Holdings.{part_of as value_in}
use Rattle.variables.specs.Names.{Meaning, value_as, meant, in_reading, names_of}
use Rattle.variables.specs.inner.Keys.{Keys, match_as}
use Rattle.variables.proofs.KeysFind.{sought_by_keys}
use Rattle.variables.proofs.Own.{OwnHeld, both_own}
use Rattle.std.specs.Prelude.{Ok, Err}
use Rattle.parts.specs.inner.Steps.{Account, Outcome}
use Rattle.leaves.specs.Leaves.{number_part, kind_outcome, found_outcome, looked_up, named_part}
use Rattle.expressions.specs.Trees.{tree, constant, variable}
use Rattle.expressions.specs.Evaluations.{name_steps, integer_of_meaning}
use Rattle.expressions.specs.inner.Steps.{outcome_by, outcome_of, part_of}

pub number_read : (names : List ℕ → Meaning) (value next : ℕ) (account : Account) → Ok (number_part value next account) ≡ part_of names account (tree (constant value) next)
number_read names value next (Ok left) = refl
number_read names value next (Err refusal) = refl

module _ (place : ℕ) where
  -- what a name is evaluated to, by what it means
  abbrev outcome_for : ℕ → Meaning → Outcome
  outcome_for left m = outcome_by (run (name_steps m place (ended 0)) left) (integer_of_meaning m)

  kind_evaluated : (left : ℕ) (kind : Kind) (bytes : List ℕ) → kind_outcome kind (pattern bytes) place left ≡ outcome_for left (value_as kind bytes)
  kind_evaluated left Text bytes = refl
  kind_evaluated left Macro bytes = refl
  kind_evaluated zero Integer bytes = refl
  kind_evaluated (suc left) Integer bytes =
      let fewer : left ≡ suc left - 1 = omega arith in
      sym (other (suc left) 0 _ _ (λ e. omega arith) (ap (λ l. Ok (record { pattern = pattern bytes; left = l })) fewer))

  found_evaluated : (farm house : List ℕ) (left : ℕ) (h : Holding) → OwnHeld farm house h
      → found_outcome farm house (match_as farm house h) place left ≡ outcome_for left (in_reading h)
  unfolding meant
  found_evaluated farm house left nowhere o = refl
  found_evaluated farm house left (held holder entry) o =
      let table = held_by holder farm house in
      let v : Variable = variable_at holder table entry in
      kind_evaluated left (kind_of entry.kind) (value_in farm house v)
      ∙ ap (λ value. outcome_for left (value_as (kind_of entry.kind) value)) (sym (own_value holder table entry (o.own holder entry refl)))

  name_evaluated : (farm house keys name : List ℕ) (account : Account) → Keys farm house keys
      → looked_up farm house keys name place account ≡ outcome_of (names_of farm house) account (variable name place)
  name_evaluated farm house keys name (Err refusal) own = refl
  name_evaluated farm house keys name (Ok left) own =
      ap (λ h. found_outcome farm house (match_as farm house h) place left) (sought_by_keys farm house name own)
      ∙ found_evaluated farm house left (sought_in_both farm house name) (both_own farm house name)

  pub name_read : (next : ℕ) (farm house keys name : List ℕ) (account : Account) → Keys farm house keys
      → Ok (named_part farm house keys name place next account) ≡ part_of (names_of farm house) account (tree (variable name place) next)
  name_read next farm house keys name account own = ap (λ outcome. Ok (record { outcome = outcome; next = next })) (name_evaluated farm house keys name account own)
