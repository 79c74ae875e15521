-- Texts of other lengths, and a token of no bytes.
use mathlib.Core.Bool.{false, and-false}
use mathlib.Core.List.{List, [], ◌∷◌}
use mathlib.Core.Path.{◌≡◌, refl, sym, ap}
use Prim.Native.Nat.{ℕ, suc}
use native.Mathlib.Nat.{add-zero}
use lib.Dec.{eqb}
use lib.ListN.{length}
use Rattle.records.specs.Records.{same_bytes}
use Rattle.tokens.specs.declared.Token.{Token}
use Rattle.tokens.specs.Tokens.{lexeme}

pub other_length : (a b : List ℕ) → (length b ≡ length a → ⊥) → same_bytes a b ≡ false
other_length [] [] n = absurd (n refl)
other_length [] (y ∷ ys) n = refl
other_length (x ∷ xs) [] n = refl
other_length (x ∷ xs) (y ∷ ys) n = rw (other_length xs ys (λ e. n (ap suc e))) (and-false (eqb x y))

pub no_bytes : (token : Token) (at : ℕ) → record { token = token; place = at; next = at } ≡ lexeme token at 0
no_bytes token at = ap (λ next. record { token = token; place = at; next = next }) (sym (add-zero at))
