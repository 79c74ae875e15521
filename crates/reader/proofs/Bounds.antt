-- Every answer of `reading` has a place up to 65,535, a value of 32 bits, and a number that is listed.
use mathlib.Core.Bool.{Bool, ◌||◌, and-eq-true_iff}
use mathlib.Core.List.Memᴰ.{head}
use mathlib.Core.List.Memᴰ.{tail}
use mathlib.Core.List.{List, Memᴰ}
use mathlib.Core.Path.{refl}
use Prim.Native.Nat.{ℕ, ◌+◌, ◌≤◌}
use native.Mathlib.Omega.{arith}
use borrow.Author.Tests.{ltb-false, eqb-true}
use lib.Dec.{ltb, eqb}
use lib.ListN.{length, get_or, drop}
use Rattle.paper.specs.Refusals.{longest}
use Rattle.paper.specs.Bytes.{space, spaces}
use Rattle.std.specs.Prelude.{Result}
use Rattle.paper.specs.declared.refusals.Refused.{Refused}
use Rattle.reader.specs.declared.Number.{Number}
use Rattle.reader.specs.Reading.{read_number, read_place, read_value, numbers, run, goes_on, judged, based, in_base, marked, numbered, reading}
use Rattle.paper.proofs.Choice.{either}
use Rattle.paper.proofs.Runs.{inside, run_short}
use Rattle.reader.proofs.Laws.{run_within}

pub record Bounded (r : Result Number Refused) : Type 0 where
  pub place : read_place r ≤ longest
  pub value : read_value r ≤ 4294967295
  pub listed : Memᴰ (read_number r) numbers

module _ (text : List ℕ) (whole : Bool) (limit start : ℕ) (short : length text ≤ longest) (s : start ≤ length text) where
  judged_bounded :
      (first end value : ℕ) → first ≤ length text → end ≤ length text →
      Bounded (judged text whole limit start first end value)
  unfolding judged
  judged_bounded first end value f e =
      either Bounded (eqb end first) (λ _. record { place = omega arith; value = omega arith; listed = tail (tail (tail (head refl))) })
      (λ _. either Bounded (ltb 4294967295 value)
      (λ _. record { place = omega arith; value = omega arith; listed = tail (tail (tail (tail (head refl)))) })
      (λ fits. either Bounded (goes_on text whole end)
      (λ _. record { place = omega arith; value = omega arith; listed = tail (tail (tail (tail (tail (head refl))))) })
      (λ _. either Bounded (ltb limit value)
      (λ _. record { place = omega arith; value = omega arith; listed = tail (tail (tail (tail (tail (tail (head refl)))))) })
      (λ _. record { place = omega arith; value = omega (arith, ltb-false 4294967295 value fits); listed = head refl }))))

  based_bounded : (first base : ℕ) → first ≤ length text → Bounded (based text whole limit start first base)
  based_bounded first base f = judged_bounded first _ _ f (run_within base first text f)

  in_base_bounded : (first base : ℕ) → first ≤ length text → Bounded (in_base text whole limit start first base)
  unfolding in_base
  in_base_bounded first base f =
      either Bounded (ltb base 2 || ltb 36 base)
      (λ _. record { place = omega arith; value = omega arith; listed = tail (tail (head refl)) }) (λ _. based_bounded first base f)

  numbered_bounded : Bounded (numbered text whole limit start)
  unfolding numbered
  numbered_bounded =
      let mark = start + length (run 10 (drop start text)) in
      either Bounded (eqb (get_or text start 0) 38)
      (λ hex. based_bounded (start + 1) 16 (omega (arith, inside text start (omega (arith, eqb-true (get_or text start 0) 38 hex)))))
      (λ _. either Bounded (marked text start mark)
      (λ m.
      let u = eqb-true (get_or text mark 0) 95 ((and-eq-true_iff (ltb start mark) _).0 m).1 in
      in_base_bounded (mark + 1) _ (omega (arith, inside text mark (omega arith))))
      (λ _. based_bounded start 10 s))

pub reading_bounded : (text : List ℕ) (whole : Bool) (limit : ℕ) → Bounded (reading text whole limit)
unfolding reading
reading_bounded text whole limit =
    either Bounded (ltb longest (length text)) (λ _. record { place = omega arith; value = omega arith; listed = tail (head refl) })
    (λ short. numbered_bounded text whole limit (spaces text) (ltb-false longest (length text) short) (run_short space text))
