-- Stretches one behind the other, and the run that a stretch is which cannot be longer.
use mathlib.Core.Path.{◌≡◌, subst}
use mathlib.Core.Bool.{Bool, true, false}
use mathlib.Core.List.{List}
use Prim.Native.Nat.{ℕ, zero, suc, ◌+◌, ◌-◌, ◌*◌, ◌≤◌, ◌<◌}
use Rattle.std.proofs.Math.Nat.{mul-le-mul_left}
use native.Mathlib.Decide.{dec_lt}
use native.Mathlib.Omega.{arith}
use lib.ListN.{length, get_or, drop}
use lib.Seq.{get_or-drop}
use Rattle.paper.specs.Bytes.{run_of}
use Rattle.paper.proofs.Runs.{run_none, run_more, run_all, passed_within}
use Rattle.runs.specs.inner.Stretches.{Stretch}

module _ (test : ℕ → Bool) (text : List ℕ) where
  pub stretch_none : (start stop : ℕ) → stop ≡ start → start ≤ length text → Stretch test text start stop
  stretch_none start stop e h = record { forward = omega arith; inside = omega arith; passes = λ k low high. absurd (omega arith) }

  module _ (start middle stop : ℕ) (s : Stretch test text start middle) where
    -- a stretch and one behind it
    pub stretch_more : Stretch test text middle stop → Stretch test text start stop
    stretch_more t =
        record {
          forward = omega (arith, s.forward, t.forward);
          inside = t.inside;
          passes = λ k low high. cases k low high (dec_lt k middle);
        }
      where
        cases : (k : ℕ) → start ≤ k → k < stop → Dec (k < middle) → test (get_or text k 0) ≡ true
        cases k low high (yes h) = s.passes k low h
        cases k low high (no h) = t.passes k (omega (arith, h)) high

    -- a stretch and one byte more
    pub stretch_next : stop ≡ middle + 1 → middle < length text → test (get_or text middle 0) ≡ true → Stretch test text start stop
    stretch_next e h p =
        stretch_more (
        record {
          forward = omega arith;
          inside = omega arith;
          passes = λ k low high.
              let same : middle ≡ k = omega arith in
              subst (λ k. test (get_or text k 0) ≡ true) same p;
        }
        )

  -- a stretch up to a byte that does not pass is the whole run
  pub stretch_run : (start stop : ℕ) → Stretch test text start stop → test (get_or text stop 0) ≡ false
      → stop ≡ start + run_of test (drop start text)
  stretch_run start stop s fails = go (stop - start) start (omega (arith, s.forward)) (omega arith)
    where
      go : (count here : ℕ) → here + count ≡ stop → start ≤ here → stop ≡ here + run_of test (drop here text)
      go zero here e low =
          let same : stop ≡ here = omega arith in
          omega (arith, run_none test text here (subst (λ k. test (get_or text k 0) ≡ false) same fails))
      go (suc count) here e low =
          omega (arith, run_more test text here (omega (arith, s.inside)) (s.passes here low (omega arith)), go count (here + 1) (omega arith) (omega arith))

  -- and the run is a stretch
  pub run_stretch : (start : ℕ) → start ≤ length text → Stretch test text start (start + run_of test (drop start text))
  run_stretch start h =
      record {
        forward = omega arith;
        inside = passed_within test text start h;
        passes = λ k low high.
            let there : start + (k - start) ≡ k = omega arith in
            subst (λ k. test (get_or text k 0) ≡ true) there
            (subst (λ c. test c ≡ true) (get_or-drop start text (k - start) 0) (run_all test (drop start text) (k - start) (omega arith)));
      }

-- one weight more fits a byte, where a block of such weights does
pub weights_fit : (block sum weight i : ℕ) → block * sum ≤ 255 * i → i < block → block * weight < 256 → sum + weight < 256
weights_fit block sum weight i sums inside fits = go (dec_lt (sum + weight) 256)
  where
    go : Dec (sum + weight < 256) → sum + weight < 256
    go (yes h) = h
    go (no h) = let over : 256 ≤ sum + weight = omega (arith, h) in absurd (omega (arith, mul-le-mul_left block over))
