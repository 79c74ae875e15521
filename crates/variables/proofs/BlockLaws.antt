-- Keys in blocks of 16: a block's lines are those from its place on, and where none of them has a key, the blocks that are passed are one
-- more.
use mathlib.Core.List.{List, []}
use mathlib.Core.Path.{◌≡◌, ap, ◌∙◌}
use Prim.Native.Nat.{ℕ, zero, suc, ◌+◌, ◌-◌, ◌*◌, ◌/◌, ◌%◌, ◌<◌}
use native.Mathlib.Decide.{dec_lt}
use native.Mathlib.Omega.{arith}
use lib.ListN.{length, get_or, drop}
use lib.Seq.{get_or-take, get_or-drop}
use Rattle.std.specs.Simd.{first_chunks}
use Rattle.variables.specs.inner.Keys.{Without}

in_block : (count : ℕ) (keys : List ℕ) (number k : ℕ) → number < count → k < 16 → get_or (get_or (first_chunks 16 count keys) number []) k 0 ≡ get_or keys (16 * number + k) 0
in_block zero keys number k h l = absurd (omega arith)
in_block (suc count) keys zero k h l =
    let on : k ≡ 16 * zero + k = omega arith in
    get_or-take 16 keys k 0 l ∙ ap (λ i. get_or keys i 0) on
in_block (suc count) keys (suc number) k h l =
    let on : 16 + (16 * number + k) ≡ 16 * suc number + k = omega arith in
    in_block count (drop 16 keys) number k (omega arith) l ∙ get_or-drop 16 keys (16 * number + k) 0 ∙ ap (λ i. get_or keys i 0) on

pub without_block :
    (key : ℕ) (keys block : List ℕ) (number next : ℕ) → next ≡ 16 * (number + 1) → number < length keys / 16 → Without key keys (16 * number) →
    block ≡ get_or (first_chunks 16 (length keys / 16) keys) number [] →
    ((k : ℕ) → k < 16 → get_or block k 0 % 32768 ≡ key → ⊥) → Without key keys next
without_block key keys block number next n h w b none = record { inside = omega arith; passes = λ k l. go k l (dec_lt k (16 * number)) } where
  go : (k : ℕ) → k < next → Dec (k < 16 * number) → get_or keys k 0 % 32768 ≡ key → ⊥
  go k l (yes before) e = w.passes k before e
  go k l (no behind) e =
      let at : 16 * number + (k - 16 * number) ≡ k = omega arith in
      let same = ap (λ bs. get_or bs (k - 16 * number) 0) b ∙ in_block (length keys / 16) keys number (k - 16 * number) h (omega arith) ∙ ap (λ i. get_or keys i 0) at in
      none (k - 16 * number) (omega arith) (ap (λ x. x % 32768) same ∙ e)
