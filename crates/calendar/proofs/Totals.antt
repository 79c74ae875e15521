-- Laws of what lengths come to: the last one that has begun by a day, and a table of all of them.
use mathlib.Core.Bool.{Bool, true, ◌&&◌, and-eq-true_iff}
use mathlib.Core.List.{List, [], ◌∷◌}
use mathlib.Core.Path.{◌≡◌, refl, ap, sym, subst, ◌∙◌}
use Prim.Native.Nat.{ℕ, zero, suc, ◌+◌, ◌-◌, ◌≤◌, ◌<◌}
use native.Mathlib.Nat.{add-zero, add-suc}
use native.Mathlib.Decide.{dec_lt}
use native.Mathlib.Omega.{arith}
use lib.Dec.{leb, eqb}
use lib.ListN.{length, get_or}
use borrow.Author.Tests.{leb-true, leb-false, le-leb, lt-leb, eqb-true}
use Rattle.paper.proofs.Choice.{hit, skip, either}
use Rattle.calendar.specs.Counting.{total}
use Rattle.calendar.specs.Dates.{last_begun}

module _ (lengths : ℕ → ℕ) where
  pub total_suc : (n : ℕ) → total lengths (suc n) ≡ total lengths n + lengths n
  unfolding total
  total_suc n = refl

  pub total_zero : total lengths 0 ≡ 0
  unfolding total
  total_zero = refl

  -- what comes later begins no earlier
  grows : (n more : ℕ) → total lengths n ≤ total lengths (n + more)
  grows n zero = omega (arith, ap (total lengths) (add-zero n))
  grows n (suc more) = omega (arith, grows n more, ap (total lengths) (add-suc n more), total_suc (n + more))

  pub later : (n m : ℕ) → n ≤ m → total lengths n ≤ total lengths m
  later n m h = let e : n + (m - n) ≡ m = omega arith in subst (λ k. total lengths n ≤ total lengths k) e (grows n (m - n))

  -- the last that has begun is one of them, has begun, and the next has not
  pub begun_within : (most day : ℕ) → last_begun lengths most day ≤ most
  unfolding last_begun
  begun_within zero day = omega arith
  begun_within (suc most) day =
      either (λ n. n ≤ suc most) (leb (total lengths (suc most)) day) (λ _. omega arith) (λ _. omega (arith, begun_within most day))

  pub begun : (most day : ℕ) → total lengths (last_begun lengths most day) ≤ day
  unfolding last_begun
  begun zero day = omega (arith, total_zero)
  begun (suc most) day =
      either (λ n. total lengths n ≤ day) (leb (total lengths (suc most)) day) (λ e. leb-true (total lengths (suc most)) day e) (λ _. begun most day)

  pub next_not_begun : (most day : ℕ) → last_begun lengths most day < most → day < total lengths (suc (last_begun lengths most day))
  unfolding last_begun
  next_not_begun zero day = λ h. absurd (omega arith)
  next_not_begun (suc most) day =
      either (λ n. n < suc most → day < total lengths (suc n)) (leb (total lengths (suc most)) day)
      (λ _ h. absurd (omega arith))
      (λ e h. go (next_not_begun most day) (leb-false (total lengths (suc most)) day e) (dec_lt (last_begun lengths most day) most))
    where
      go : (last_begun lengths most day < most → day < total lengths (suc (last_begun lengths most day))) → day < total lengths (suc most)
          → Dec (last_begun lengths most day < most) → day < total lengths (suc (last_begun lengths most day))
      go earlier after (yes h) = earlier h
      go earlier after (no h) =
          let e : last_begun lengths most day ≡ most = omega (arith, begun_within most day) in subst (λ n. day < total lengths (suc n)) (sym e) after

  -- and no other is
  pub begun_is : (most day k : ℕ) → k ≤ most → total lengths k ≤ day → (k < most → day < total lengths (suc k)) → last_begun lengths most day ≡ k
  unfolding last_begun
  begun_is zero day k h low high = omega arith
  begun_is (suc most) day k h low high = go (λ h' high'. begun_is most day k h' low high') (dec_lt k (suc most))
    where
      go : (k ≤ most → (k < most → day < total lengths (suc k)) → last_begun lengths most day ≡ k) → Dec (k < suc most) → last_begun lengths (suc most) day ≡ k
      go earlier (yes less) =
          sym (skip (leb (total lengths (suc most)) day) (suc most) (last_begun lengths most day)
          (lt-leb (total lengths (suc most)) day (omega (arith, high less, later (suc k) (suc most) (omega arith))))
          (sym (earlier (omega arith) (λ l. high (omega arith)))))
      go earlier (no more) =
          let e : k ≡ suc most = omega arith in
          sym (hit (leb (total lengths (suc most)) day) (suc most) (last_begun lengths most day)
          (le-leb (total lengths (suc most)) day (subst (λ n. total lengths n ≤ day) e low)) e)

  -- a table whose every step is a length has every total
  abbrev stepped : ℕ → ℕ → List ℕ → Bool
  stepped k x [] = true
  stepped k x (y ∷ ys) = eqb y (x + lengths k) && stepped (suc k) y ys

  tabled : (ys : List ℕ) (x k : ℕ) → stepped k x ys ≡ true → x ≡ total lengths k → (j : ℕ) → j < suc (length ys) → get_or (x ∷ ys) j 0 ≡ total lengths (k + j)
  tabled ys x k t e zero h = e ∙ ap (total lengths) (sym (add-zero k))
  tabled [] x k t e (suc j) h = absurd (omega arith)
  tabled (y ∷ ys) x k t e (suc j) h =
      let both = (and-eq-true_iff (eqb y (x + lengths k)) (stepped (suc k) y ys)).0 t in
      tabled ys y (suc k) both.1 (eqb-true y (x + lengths k) both.0 ∙ ap (λ n. n + lengths k) e ∙ sym (total_suc k)) j (omega arith)
      ∙ ap (total lengths) (omega arith)

  abbrev pub tabulates : List ℕ → Bool
  tabulates [] = true
  tabulates (x ∷ ys) = eqb x 0 && stepped 0 x ys

  pub entry : (xs : List ℕ) → tabulates xs ≡ true → (j : ℕ) → j < length xs → get_or xs j 0 ≡ total lengths j
  entry [] t j h = absurd (omega arith)
  entry (x ∷ ys) t j h =
      let both = (and-eq-true_iff (eqb x 0) (stepped 0 x ys)).0 t in
      tabled ys x 0 both.1 (eqb-true x 0 both.0 ∙ sym total_zero) j h ∙ ap (total lengths) (omega arith)
