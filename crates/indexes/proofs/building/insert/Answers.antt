-- `insert` meets its contract: the two bytes stand in the gap.
use mathlib.Core.List.{List, [], ◌∷◌, ◌++◌, append_assoc}
use mathlib.Core.Path.{◌≡◌, ap, ap₂, sym, ◌∙◌}
use Prim.Native.Nat.{ℕ, suc, ◌+◌, ◌*◌, ◌-◌, ◌/◌, ◌%◌, ◌≤◌}
use native.Mathlib.Nat.{mod-eq_of_lt}
use native.Mathlib.Omega.{arith}
use lib.ListN.{length, get_or, take, set, length-append}
use lib.Seq.{take-add, drop-cons, set_at, append_snoc, length-take-le, take_all, lt-length-set}
use Rattle.indexes.specs.inner.Halving.{slot_in, with_entry}
use Rattle.indexes.proofs.building.insert.Goals as goal

-- two bytes set at the end of a part
module _ (out behind : List ℕ) (k a b : ℕ) (h : k + 2 ≤ length out) where
  abbrev front : List ℕ
  front = take k out

  front_long : length front ≡ k
  front_long = length-take-le k out (omega arith)

  two : take (k + 2) out ≡ front ++ (get_or out k 0 ∷ get_or out (suc k) 0 ∷ [])
  two =
      take-add k 2 out
      ∙ ap (λ l. front ++ take 2 l) (drop-cons out k 0 (omega arith) ∙ ap (◌∷◌ (get_or out k 0)) (drop-cons out (suc k) 0 (omega arith)))

  first_set : set (take (k + 2) out ++ behind) k a ≡ front ++ (a ∷ get_or out (suc k) 0 ∷ behind)
  first_set =
      ap (λ l. set (l ++ behind) k a) two
      ∙ ap (λ l. set l k a) (append_assoc front (get_or out k 0 ∷ get_or out (suc k) 0 ∷ []) behind)
      ∙ set_at front (get_or out k 0) (get_or out (suc k) 0 ∷ behind) a k front_long

  both_set : set (set (take (k + 2) out ++ behind) k a) (k + 1) b ≡ front ++ (a ∷ b ∷ behind)
  both_set =
      ap (λ l. set l (k + 1) b) (first_set ∙ sym (append_snoc front a (get_or out (suc k) 0 ∷ behind)))
      ∙ set_at (front ++ (a ∷ [])) (get_or out (suc k) 0) behind b (k + 1) (length-append front (a ∷ []) ∙ ap (λ n. n + 1) front_long)
      ∙ append_snoc front a (b ∷ behind)

pub bounds-out-at-2 : goal.bounds-out-at-2
bounds-out-at-2 c =
    lt-length-set c.open_gap.new.out (2 * c.slot_in-slot.result) _ (omega arith)

pub returns : goal.returns
unfolding with_entry
returns c =
    let gap = c.open_gap in
    let a = c.args in
    let at : ℕ = 2 * c.slot_in-slot.result in
    let low : ℕ = a.place % 256 in
    let high : ℕ = a.place / 256 in
    let first : get_or c.to_le_bytes-bytes.result 0 0 ≡ low = ap (λ l. get_or l 0 0) c.to_le_bytes-bytes.ensures in
    let second : get_or c.to_le_bytes-bytes.result 1 0 ≡ high =
    ap (λ l. get_or l 1 0) c.to_le_bytes-bytes.ensures ∙ mod-eq_of_lt {n = a.place / 256} {m = 256} (omega (arith, c.requires)) in
    ap₂ (λ x y. set (set gap.new.out at x) (at + 1) y) first second
    ∙ ap (λ l. set (set l at low) (at + 1) high) gap.ensures
    ∙ both_set a.out.now _ at low high (omega (arith, c.slot_in-slot.ensures.1))
    ∙ ap (λ slot. with_entry slot a.count a.place a.out.now) (c.slot_in-slot.ensures.0 ∙ ap₂ (λ index name. slot_in a.table.now index a.count name) (take_all (length a.out.now - 0) a.out.now (omega arith)) c.name_at.ensures)
