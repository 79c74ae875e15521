-- `count_decimal` meets its contract: nine powers of ten are all that a number of 32 bits can reach.
use mathlib.Core.Path.{◌≡◌, sym, ◌∙◌}
use Prim.Native.Nat.{ℕ, ◌+◌}
use native.Mathlib.Omega.{arith}
use Rattle.forms.proofs.Laws.{enough_reached}
use Rattle.forms.proofs.counts.count_decimal.Goals as goal

-- the same sum, in the order of the code and in that of the law
regrouped : {a b c d e f g h i : ℕ} (a' b' c' d' e' f' g' h' i' : ℕ)
    → a ≡ a' → b ≡ b' → c ≡ c' → d ≡ d' → e ≡ e' → f ≡ f' → g ≡ g' → h ≡ h' → i ≡ i'
    → 1 + (a + b + c) + (d + e + f) + (g + h + i) ≡ 1 + (a' + (b' + (c' + (d' + (e' + (f' + (g' + (h' + (i' + 0)))))))))
regrouped a' b' c' d' e' f' g' h' i' p q r s t u v w x = omega arith

pub returns : goal.returns
returns c =
    let n = c.args.n in
    let counted =
    regrouped _ _ _ _ _ _ _ _ _
    c.one_if.ensures.0
    c.one_if-2.ensures.0
    c.one_if-3.ensures.0
    c.one_if-4.ensures.0
    c.one_if-5.ensures.0
    c.one_if-6.ensures.0
    c.one_if-7.ensures.0
    c.one_if-8.ensures.0
    c.one_if-9.ensures.0
    ∙ sym (enough_reached 10 n 9 n 1 (omega arith) (omega arith) (omega arith)) in
    (counted, omega arith)
