-- What keys and then an index lead to, as the code hands it out.
use mathlib.Core.List.{List}
use mathlib.Core.Path.{◌≡◌, refl, sym}
use Prim.Native.Nat.{ℕ}
use Rattle.paper.specs.declared.Holder.TheVariants.{House}
use Rattle.paper.proofs.Choice.{clash}
use Rattle.records.specs.declared.Variable.{Variable}
use Rattle.variables.specs.Tables.{Sought, absent, present}
use Rattle.variables.specs.Holdings.{Holding, nowhere, held, held_in, or_else}
use Rattle.variables.specs.inner.Keys.{match_as}
use Rattle.std.specs.Prelude.{Some, None}
use Rattle.indexes.specs.inner.Halving.{match_in}

module _ (farm house : List ℕ) where
  pub by_keys : (h second : Holding) {v : Variable} → match_as farm house h ≡ Some v → Some v ≡ match_as farm house (or_else h second)
  by_keys nowhere second e = clash (cc)
  by_keys (held holder f) second e = sym e

  pub by_index : (h : Holding) (s : Sought) → match_as farm house h ≡ None → match_in house s ≡ match_as farm house (or_else h (held_in House s))
  by_index nowhere absent e = refl
  by_index nowhere (present f) e = refl
  by_index (held holder f) s e = clash (cc)
