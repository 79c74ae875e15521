-- Which case a definition picks by its tests: each law takes a fact and goes on in the case that it leads to.
use mathlib.Core.Path.{◌≡◌, refl, ap, sym, ◌∙◌}
use mathlib.Core.Bool.{Bool, true, false, cond}
use Prim.Native.Nat.{ℕ, ◌≤◌, ◌<◌}
use native.Mathlib.Omega.{arith}
use lib.Dec.{ltb, eqb}
use borrow.Author.Tests.{lt-ltb, le-ltb, eq-eqb, ne_eqb}

-- two constructors that are told apart by a number each
pub clash : {A : Type 0} → ◌≡◌ {A = ℕ} 0 1 → A
clash z = absurd (omega arith)

module _ {ℓ} {A : Type ℓ} where
  pub hit : (b : Bool) (x y : A) {z : A} → b ≡ true → z ≡ x → z ≡ cond b x y
  hit b x y {z} t e = e ∙ sym (ap (λ t. cond t x y) t)

  pub skip : (b : Bool) (x y : A) {z : A} → b ≡ false → z ≡ y → z ≡ cond b x y
  skip b x y {z} t e = e ∙ sym (ap (λ t. cond t x y) t)

  pub below : (a b : ℕ) (x y : A) {z : A} → a < b → z ≡ x → z ≡ cond (ltb a b) x y
  below a b x y h e = hit (ltb a b) x y (lt-ltb a b h) e

  pub not_below : (a b : ℕ) (x y : A) {z : A} → b ≤ a → z ≡ y → z ≡ cond (ltb a b) x y
  not_below a b x y h e = skip (ltb a b) x y (le-ltb a b h) e

  pub same : (a b : ℕ) (x y : A) {z : A} → a ≡ b → z ≡ x → z ≡ cond (eqb a b) x y
  same a b x y h e = hit (eqb a b) x y (eq-eqb a b h) e

  pub other : (a b : ℕ) (x y : A) {z : A} → (a ≡ b → ⊥) → z ≡ y → z ≡ cond (eqb a b) x y
  other a b x y h e = skip (eqb a b) x y (ne_eqb a b h) e

-- what holds of both cases, each where its test leads to it, holds of the one that is picked
pub either {ℓ κ} : {A : Type ℓ} (P : A → Type κ) (b : Bool) {x y : A} → (b ≡ true → P x) → (b ≡ false → P y) → P (cond b x y)
either P true f g = f refl
either P false f g = g refl
