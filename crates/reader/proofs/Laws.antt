-- What the proofs share: the digits that stand in a text from a place on, and values that are cut.
use mathlib.Core.Bool.{Bool, true, false, cond}
use mathlib.Core.List.{List, [], ◌∷◌}
use mathlib.Core.Path.{◌≡◌, refl, ap}
use Prim.Native.Nat.{ℕ, suc, ◌+◌, ◌*◌, ◌<◌, ◌≤◌}
use native.Mathlib.Nat.{le-mul_of_pos_right, min-eq_left, min-eq_right}
use native.Mathlib.Decide.{dec_le}
use native.Mathlib.Numerals.{add-one}
use native.Mathlib.Omega.{arith}
use borrow.Author.Tests.{lt-ltb, le-ltb}
use lib.Dec.{ltb}
use lib.ListN.{length, get_or, drop, length-drop, drop_of_length-le}
use lib.Seq.{drop-cons}
use Rattle.std.specs.Prelude.{Some, None}
use Rattle.paper.proofs.Choice.{either}
use Rattle.reader.specs.Reading.{digit, run, worth, judged, in_base}
use Rattle.reader.specs.inner.Steps.{cut, digit_in}

-- what goes by the same test as an option is known by what the option is
module _ {A : Type 0} where
  where_none : (b : Bool) (x : ℕ) (a z : A) → cond b (Some x) None ≡ None → cond b a z ≡ z
  where_none true x a z e = absurd (cc)
  where_none false x a z e = refl

  where_some : (b : Bool) (x : ℕ) (z : A) {d : ℕ} (f : ℕ → A) → cond b (Some x) None ≡ Some d → cond b (f x) z ≡ f d
  where_some true x z f e = cc
  where_some false x z f e = absurd (cc)

module _ (text : List ℕ) (at base : ℕ) where
  pub run_end : length text ≤ at → run base (drop at text) ≡ []
  run_end h = rw (drop_of_length-le text h)

  module _ (h : at < length text) where
    pub run_none : digit_in base (get_or text at 0) ≡ None → run base (drop at text) ≡ []
    run_none e = rw (drop-cons text at 0) (where_none (ltb (digit (get_or text at 0)) base) _ _ _ e)

    pub run_more : {d : ℕ} → digit_in base (get_or text at 0) ≡ Some d → run base (drop at text) ≡ d ∷ run base (drop (at + 1) text)
    run_more e =
        rw (add-one, drop-cons text at 0)
        (where_some (ltb (digit (get_or text at 0)) base) _ _ (λ d. d ∷ run base (drop (suc at) text)) e)

-- a place up to which only digits were passed: those from there on end where those from `first` on do
pub record Passed (text : List ℕ) (first base at : ℕ) : Type 0 where
  pub same_end : first + length (run base (drop first text)) ≡ at + length (run base (drop at text))

module _ {text : List ℕ} {first base at : ℕ} (p : Passed text first base at) where
  pub one_passed : {d : ℕ} → at < length text → digit_in base (get_or text at 0) ≡ Some d → Passed text first base (at + 1)
  one_passed h e = record { same_end = omega (arith, p.same_end, ap length (run_more text at base h e)) }

  pub all_passed : run base (drop at text) ≡ [] → at ≡ first + length (run base (drop first text))
  all_passed e = omega (arith, p.same_end, ap length e)

run_length : (base : ℕ) (text : List ℕ) → length (run base text) ≤ length text
run_length base [] = omega arith
run_length base (x ∷ xs) =
    either (λ ds. length ds ≤ suc (length xs)) (ltb (digit x) base) (λ _. omega (arith, run_length base xs)) (λ _. omega arith)

pub run_within : (base first : ℕ) (text : List ℕ) → first ≤ length text → first + length (run base (drop first text)) ≤ length text
run_within base first text h = omega (arith, run_length base (drop first text), length-drop first text)

-- what does not tell the numbers from 4294967296 on apart does not tell a value from that value cut
cut_same : {A : Type 0} (f : ℕ → A) (a : ℕ) → (4294967296 ≤ a → f 4294967296 ≡ f a) → f (cut a) ≡ f a
cut_same f a above = go (dec_le 4294967296 a) where
  go : Dec (4294967296 ≤ a) → f (cut a) ≡ f a
  go (yes h) = rw (min-eq_right h) (above h)
  go (no n) = rw (min-eq_left {n = a} {m = 4294967296} (omega arith))

-- digits of a base do not make a value smaller
worth_grows : (base before : ℕ) (ds : List ℕ) → 0 < base → before ≤ worth base before ds
worth_grows base before [] h = omega arith
worth_grows base before (d ∷ ds) h = omega (arith, le-mul_of_pos_right before h, worth_grows base (before * base + d) ds h)

-- so none changes a value that is cut
pub cut_settled : (base before : ℕ) (ds : List ℕ) → 0 < base → 4294967296 ≤ before → 4294967296 ≡ cut (worth base before ds)
cut_settled base before ds h big = omega (arith, worth_grows base before ds h)

module _ (text : List ℕ) (whole : Bool) (limit start first : ℕ) where
  pub cut_judged : (end value : ℕ) → judged text whole limit start first end (cut value) ≡ judged text whole limit start first end value
  unfolding judged
  cut_judged end value = cut_same (judged text whole limit start first end) value (λ h. rw (lt-ltb 4294967295 value h))

  pub cut_in_base : (base : ℕ) → in_base text whole limit start first (cut base) ≡ in_base text whole limit start first base
  unfolding in_base
  cut_in_base base =
      cut_same (in_base text whole limit start first) base
      (λ h. rw (le-ltb base 2 (omega arith), lt-ltb 36 base (omega arith)))
