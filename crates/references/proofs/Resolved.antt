-- What a content stands for by keys and an index that lead to what names mean in the tables.
use mathlib.Core.List.{List}
use mathlib.Core.Path.{◌≡◌, ap}
use Prim.Native.Nat.{ℕ}
use Rattle.lookups.specs.inner.Through.{Leads}
use Rattle.references.specs.References.{referred_to, referred_in, referred_by}

pub as_led : (farm house keys index name : List ℕ) → Leads farm house keys index → referred_by farm house keys index name ≡ referred_in farm house name
unfolding referred_in referred_by
as_led farm house keys index name leads = ap (λ s. referred_to farm house s name) (leads name)
