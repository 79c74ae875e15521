-- What `map_err` hands on: a value as it is, and an error as its closure makes it.
use mathlib.Core.Path.{◌≡◌, refl, subst}
use Rattle.std.specs.Prelude.{Result, Ok, Err, MatchResult, IsErrAnd}
use Rattle.paper.proofs.Choice.{clash}

module _ {T E D : Type 0} (P : E → D → Type 0) where
  -- a result of it, by what it was before
  abbrev pub Mapped : Result T E → Result T D → Type 0
  Mapped r m = MatchResult r (λ x. m ≡ Ok x) (λ e. IsErrAnd m (P e))

  pub ok_before : (r : Result T E) (m : Result T D) (x : T) → Mapped r m → m ≡ Ok x → r ≡ Ok x
  ok_before (Ok y) m x h e = let same : y ≡ x = cc in cc
  ok_before (Err d) m x h e = absurd (subst (λ m. IsErrAnd m (P d)) e h)

  pub err_before : (r : Result T E) (m : Result T D) (w : D) → Mapped r m → m ≡ Err w → (d : E) × (r ≡ Err d) × P d w
  err_before (Ok y) m w h e = clash (cc)
  err_before (Err d) m w h e = (d, refl, subst (λ m. IsErrAnd m (P d)) e h)
