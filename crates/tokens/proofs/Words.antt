-- What a word is read as, by its length and its bytes.
use mathlib.Core.Bool.{cond, ◌&&◌, and-true}
use mathlib.Core.List.{List, [], ◌∷◌}
use mathlib.Core.Path.{◌≡◌}
use Prim.Native.Nat.{ℕ}
use native.Mathlib.Omega.{arith}
use lib.Dec.{eqb}
use lib.ListN.{length, get_or}
use Rattle.paper.specs.Texts.{bytes}
use Rattle.arithmetic.specs.declared.operators.Operator.TheVariants.{Not, Product, And, Either}
use Rattle.arithmetic.specs.declared.operators.Product.TheVariants.{Mod}
use Rattle.arithmetic.specs.declared.operators.Either.TheVariants.{Or, Eor}
use Rattle.tokens.specs.declared.Token.TheVariants.{Operator as Operates, Name}
use Rattle.tokens.specs.Tokens.{word_token}
use Rattle.tokens.proofs.Laws.{other_length}

pub of_two : (word : List ℕ) → length word ≡ 2
    → word_token word ≡ cond (eqb 79 (get_or word 0 0) && eqb 82 (get_or word 1 0)) (Operates (Either Or)) Name
unfolding word_token
of_two [] h = absurd (omega arith)
of_two (x ∷ []) h = absurd (omega arith)
of_two (x ∷ y ∷ []) h =
    let w = x ∷ y ∷ [] in
    rw (
      other_length (bytes "MOD") w (λ h. absurd (omega arith)),
      other_length (bytes "AND") w (λ h. absurd (omega arith)),
      other_length (bytes "EOR") w (λ h. absurd (omega arith)),
      other_length (bytes "NOT") w (λ h. absurd (omega arith)),
      and-true (eqb 82 y),
    )
of_two (x ∷ y ∷ z ∷ zs) h = absurd (omega arith)

pub of_three : (word : List ℕ) → length word ≡ 3
    → word_token word
    ≡ cond (eqb 77 (get_or word 0 0) && (eqb 79 (get_or word 1 0) && eqb 68 (get_or word 2 0))) (Operates (Product Mod))
    (cond (eqb 65 (get_or word 0 0) && (eqb 78 (get_or word 1 0) && eqb 68 (get_or word 2 0))) (Operates And)
    (cond (eqb 69 (get_or word 0 0) && (eqb 79 (get_or word 1 0) && eqb 82 (get_or word 2 0))) (Operates (Either Eor))
    (cond (eqb 78 (get_or word 0 0) && (eqb 79 (get_or word 1 0) && eqb 84 (get_or word 2 0))) (Operates Not) Name)))
unfolding word_token
of_three [] h = absurd (omega arith)
of_three (x ∷ []) h = absurd (omega arith)
of_three (x ∷ y ∷ []) h = absurd (omega arith)
of_three (x ∷ y ∷ z ∷ []) h =
    let w = x ∷ y ∷ z ∷ [] in
    rw (
      other_length (bytes "OR") w (λ h. absurd (omega arith)),
      and-true (eqb 68 z),
      and-true (eqb 82 z),
      and-true (eqb 84 z),
    )
of_three (x ∷ y ∷ z ∷ w ∷ ws) h = absurd (omega arith)

pub of_other : (word : List ℕ) → (length word ≡ 2 → ⊥) → (length word ≡ 3 → ⊥) → word_token word ≡ Name
unfolding word_token
of_other word two three =
    rw (
      other_length (bytes "MOD") word three,
      other_length (bytes "AND") word three,
      other_length (bytes "OR") word two,
      other_length (bytes "EOR") word three,
      other_length (bytes "NOT") word three,
    )
