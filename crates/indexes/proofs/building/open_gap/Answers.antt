-- `open_gap` meets its contract. The loop's invariant: what stood behind there has gone up by two. The measure is what is left to go up.
use mathlib.Core.List.{List, [], ◌∷◌, ◌++◌, append_assoc}
use mathlib.Core.Path.{◌≡◌, refl, ap, ap₂, sym, ◌∙◌}
use Prim.Native.Nat.{ℕ, suc, ◌+◌, ◌-◌, ◌<◌, ◌≤◌}
use native.Mathlib.Omega.{arith}
use lib.ListN.{length, get_or, take, drop, set, take-append-drop, length-set, get_or-append}
use lib.Seq.{slice, slice_empty, slice-cons, set-append_left, take-set-lt, take-suc-set, get_or-take, length-take-le}
use Rattle.indexes.specs.inner.Halving.{gap_in}
use Rattle.indexes.proofs.building.open_gap.Goals as goal

none : (out : List ℕ) (end : ℕ) → out ≡ gap_in end end out
none out end = sym (ap (λ part. take (end + 2) out ++ (part ++ drop (end + 2) out)) (slice_empty end out) ∙ take-append-drop (end + 2) out)

-- one byte goes up
module _ (out : List ℕ) (k end : ℕ) (h : k < end) (room : end + 2 ≤ length out) where
  abbrev behind : List ℕ
  behind = slice (suc k) end out ++ drop (end + 2) out

  front_long : length (take (suc k + 2) out) ≡ suc k + 2
  front_long = length-take-le (suc k + 2) out (omega arith)

  byte_of : get_or (gap_in (suc k) end out) k 0 ≡ get_or out k 0
  byte_of =
      get_or-append (take (suc k + 2) out) behind 0 k (omega (arith, front_long))
      ∙ get_or-take (suc k + 2) out k 0 (omega arith)

  last_set : (v : ℕ) → set (take (suc k + 2) out) (suc k + 1) v ≡ take (k + 2) out ++ (v ∷ [])
  last_set v =
      let two : suc k + 2 ≡ suc (suc k + 1) = omega arith in
      let one : suc k + 1 ≡ k + 2 = omega arith in
      ap (λ n. set (take n out) (suc k + 1) v) two ∙ sym (take-set-lt (suc (suc k + 1)) out (suc k + 1) v (omega arith))
      ∙ take-suc-set out (suc k + 1) v (omega arith) ∙ ap (λ n. take n out ++ (v ∷ [])) one

  up : (v : ℕ) → v ≡ get_or out k 0 → set (gap_in (suc k) end out) (suc k + 1) v ≡ gap_in k end out
  up v e =
      set-append_left (take (suc k + 2) out) behind (suc k + 1) v (omega (arith, front_long))
      ∙ ap (λ front. front ++ behind) (last_set v) ∙ append_assoc (take (k + 2) out) (v ∷ []) behind
      ∙ ap (λ part. take (k + 2) out ++ (part ++ drop (end + 2) out))
      (ap (λ b. b ∷ slice (suc k) end out) e ∙ sym (slice-cons k end out 0 h (omega arith)))

-- the same from a place on
went :
    (out₀ out : List ℕ) (at end : ℕ) → 0 < at → at ≤ end → end + 2 ≤ length out₀ → out ≡ gap_in at end out₀ →
    set out (at + 1) (get_or out (at - 1) 0) ≡ gap_in (at - 1) end out₀
went out₀ out at end some h room e =
    let k : ℕ = at - 1 in
    let on : at ≡ suc k = omega arith in
    let there : out ≡ gap_in (suc k) end out₀ = e ∙ ap (λ n. gap_in n end out₀) on in
    let one : at + 1 ≡ suc k + 1 = omega arith in
    ap₂ (λ l i. set l i (get_or out k 0)) there one ∙ up out₀ k end (omega arith) room (get_or out k 0) (ap (λ l. get_or l k 0) there ∙ byte_of out₀ k end (omega arith) room)

pub loop-at-init : goal.loop-at-init
loop-at-init c = (omega arith, omega arith, omega arith, refl, none c.args.out.now c.args.end)

pub overflow_sub-out : goal.overflow_sub-out
overflow_sub-out c = omega arith

pub bounds-out-at : goal.bounds-out-at
bounds-out-at c = omega arith

pub overflow_add-out : goal.overflow_add-out
overflow_add-out c = omega arith

pub bounds-out-at-in-loop-at : goal.bounds-out-at-in-loop-at
bounds-out-at-in-loop-at c = omega arith

pub overflow_sub-at : goal.overflow_sub-at
overflow_sub-at c = omega arith

pub loop-at-smaller : goal.loop-at-smaller
loop-at-smaller c = omega arith

pub loop-at-preserved : goal.loop-at-preserved
loop-at-preserved c =
    let i = c.loop-at.invariant in
    (omega arith, omega arith, i.2, length-set c.loop-at.out (c.loop-at.at + 1) _ ∙ i.3, went _ _ _ _ (omega arith) i.1 i.2 i.4)

pub returns : goal.returns
returns c =
    let i = c.loop-at.invariant in
    let there : c.loop-at.at ≡ c.args.from = omega arith in
    i.4 ∙ ap (λ n. gap_in n c.args.end c.args.out.now) there
