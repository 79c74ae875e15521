-- Runs of bytes that pass a test, from a place of a text on: whether one goes on there, and how far it comes.
use mathlib.Core.Bool.{Bool, true, false}
use mathlib.Core.List.{List, [], ◌∷◌}
use mathlib.Core.Path.{◌≡◌, refl}
use Prim.Native.Nat.{ℕ, suc, zero, ◌+◌, ◌<◌, ◌≤◌}
use native.Mathlib.Numerals.{add-one}
use native.Mathlib.Omega.{arith}
use lib.ListN.{length, get_or, drop, length-drop}
use lib.Seq.{drop-cons}
use Rattle.paper.specs.Bytes.{run_of, ends}
use Rattle.paper.proofs.Choice.{either, clash}

-- a byte that is not zero stands inside the text
pub inside : (text : List ℕ) (at : ℕ) → 0 < get_or text at 0 → at < length text
inside [] at h = omega arith
inside (x ∷ xs) zero h = omega arith
inside (x ∷ xs) (suc at) h = omega (arith, inside xs at h)

-- a byte at which no text ends is not zero, and stands inside the text
pub not_zero : (c : ℕ) → ends c ≡ false → 0 < c
not_zero zero e = clash (cc)
not_zero (suc c) e = omega arith

pub goes_on_lem : (text : List ℕ) (at : ℕ) → ends (get_or text at 0) ≡ false → at < length text
goes_on_lem text at h = inside text at (not_zero (get_or text at 0) h)

module _ (test : ℕ → Bool) where
  pub run_none : (text : List ℕ) (at : ℕ) → test (get_or text at 0) ≡ false → run_of test (drop at text) ≡ 0
  run_none [] zero n = refl
  run_none [] (suc at) n = refl
  run_none (x ∷ xs) zero n = rw n
  run_none (x ∷ xs) (suc at) n = run_none xs at n

  pub run_more : (text : List ℕ) (at : ℕ) → at < length text → test (get_or text at 0) ≡ true
      → run_of test (drop at text) ≡ suc (run_of test (drop (at + 1) text))
  run_more text at h e = rw (add-one, drop-cons text at 0, e)

  pub run_all : (text : List ℕ) (k : ℕ) → k < run_of test text → test (get_or text k 0) ≡ true
  run_all [] k h = absurd (omega arith)
  run_all (x ∷ xs) zero h = either (λ n. 0 < n → test x ≡ true) (test x) (λ t _. t) (λ _ n. absurd (omega arith)) h
  run_all (x ∷ xs) (suc k) h =
      either (λ n. suc k < n → test (get_or xs k 0) ≡ true) (test x) (λ _ n. run_all xs k (omega arith)) (λ _ n. absurd (omega arith)) h

  pub run_short : (text : List ℕ) → run_of test text ≤ length text
  run_short [] = omega arith
  run_short (x ∷ xs) = either (λ n. n ≤ suc (length xs)) (test x) (λ _. omega (arith, run_short xs)) (λ _. omega arith)

  -- behind the run from a place of a text on, still inside it
  pub passed_within : (text : List ℕ) (at : ℕ) → at ≤ length text → at + run_of test (drop at text) ≤ length text
  passed_within text at h = omega (arith, run_short (drop at text), length-drop at text)
