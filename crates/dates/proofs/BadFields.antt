-- The first bad field of a format: what stands at its place, and that the format cut off there has good fields only.
use mathlib.Core.Bool.{Bool, true, false, cond}
use mathlib.Core.List.{List}
use mathlib.Core.Path.{◌≡◌, refl, ap, ap₂, sym, subst, ◌∙◌}
use Prim.Native.Nat.{ℕ, zero, suc, ◌+◌, ◌≤◌, ◌<◌}
use native.Mathlib.Omega.{arith}
use lib.Dec.{eqb}
use lib.ListN.{length, take, get_or, length-take, get_or-eq_default}
use lib.Seq.{get_or-take}
use Rattle.std.specs.Prelude.{Option, Some, None}
use Rattle.paper.proofs.Choice.{same, clash}
use Rattle.dates.specs.Fields.{pair, field_named}
use Rattle.dates.specs.Formats.{named, behind_percent, piece_at, Layout, laid_out, layout_from, layout_of, good, bad, fields_of}
use Rattle.dates.specs.declared.fields.Field.{Field}
use Rattle.dates.specs.declared.pieces.Piece.{Piece}
use Rattle.dates.specs.declared.pieces.Piece.TheVariants.{End, Copied, Percent, Shown, Bad}

-- a piece by its three bytes: one that is copied goes by the first alone, and a percent sign by the first two
abbrev piece : ℕ → ℕ → ℕ → Piece
piece c a b = cond (eqb c 0) End (cond (eqb c 37) (behind_percent a b) (Copied c))

module _ (c a b : ℕ) where
  copied : (a' b' d : ℕ) → piece c a b ≡ Copied d → piece c a' b' ≡ Copied d
  copied a' b' d = go (eqb c 0) (eqb c 37) (eqb a 37) (field_named (pair a b))
    where
      go : (z p q : Bool) (name : Option Field) → cond z End (cond p (cond q Percent (named name)) (Copied c)) ≡ Copied d
          → cond z End (cond p (behind_percent a' b') (Copied c)) ≡ Copied d
      go true p q name e = clash (cc)
      go false true true name e = clash (cc)
      go false true false (Some field) e = clash (cc)
      go false true false None e = clash (cc)
      go false false q name e = e

  percent : (b' : ℕ) → piece c a b ≡ Percent → piece c a b' ≡ Percent
  percent b' = go (eqb c 0) (eqb c 37) (eqb a 37) (field_named (pair a b))
    where
      go : (z p q : Bool) (name : Option Field) → cond z End (cond p (cond q Percent (named name)) (Copied c)) ≡ Percent
          → cond z End (cond p (cond q Percent (named (field_named (pair a b')))) (Copied c)) ≡ Percent
      go true p q name e = clash (cc)
      go false true true name e = refl
      go false true false (Some field) e = clash (cc)
      go false true false None e = clash (cc)
      go false false q name e = clash (cc)

-- pieces of a format that lie before a place, where it is cut off
module _ (format : List ℕ) (n p : ℕ) where
  abbrev cut : List ℕ
  cut = take n format

  byte_kept : (i : ℕ) → i < n → get_or cut i 0 ≡ get_or format i 0
  byte_kept i h = get_or-take n format i 0 h

  copied_kept : (d : ℕ) → piece_at format p ≡ Copied d → p < n → piece_at cut p ≡ Copied d
  unfolding piece_at
  copied_kept d e h =
      ap (λ c. piece c (get_or cut (p + 1) 0) (get_or cut (p + 2) 0)) (byte_kept p h)
      ∙ copied (get_or format p 0) (get_or format (p + 1) 0) (get_or format (p + 2) 0) (get_or cut (p + 1) 0) (get_or cut (p + 2) 0) d e

  percent_kept : piece_at format p ≡ Percent → p + 1 < n → piece_at cut p ≡ Percent
  unfolding piece_at
  percent_kept e h =
      ap₂ (λ c a. piece c a (get_or cut (p + 2) 0)) (byte_kept p (omega arith)) (byte_kept (p + 1) h)
      ∙ percent (get_or format p 0) (get_or format (p + 1) 0) (get_or format (p + 2) 0) (get_or cut (p + 2) 0) e

  all_kept : p + 2 < n → piece_at cut p ≡ piece_at format p
  unfolding piece_at
  all_kept h =
      ap₂ (λ c a. piece c a (get_or cut (p + 2) 0)) (byte_kept p (omega arith)) (byte_kept (p + 1) (omega arith))
      ∙ ap (λ b. piece (get_or format p 0) (get_or format (p + 1) 0) b) (byte_kept (p + 2) h)

  cut_ends : n ≤ p → piece_at cut p ≡ End
  unfolding piece_at
  cut_ends h = sym (same (get_or cut p 0) 0 End _ (get_or-eq_default cut 0 (simp length-take (omega arith))) refl)

module _ (format : List ℕ) (n : ℕ) where
  -- what stands where a field is bad, at the place that is read or behind it
  found_in : (q : Piece) (p : ℕ) (rest : ℕ → Layout)
      → ((next : ℕ) → fields_of (rest next) ≡ bad n → (next ≤ n) × (piece_at format n ≡ Bad))
      → piece_at format p ≡ q → fields_of (laid_out q p rest) ≡ bad n → (p ≤ n) × (piece_at format n ≡ Bad)
  found_in End p rest later is e = clash (cc)
  found_in (Copied c) p rest later is e = let l = later (p + 1) e in (omega (arith, l.0), l.1)
  found_in Percent p rest later is e = let l = later (p + 2) e in (omega (arith, l.0), l.1)
  found_in (Shown field) p rest later is e = let l = later (p + 3) e in (omega (arith, l.0), l.1)
  found_in Bad p rest later is e = let here : p ≡ n = cc in (omega arith, ap (piece_at format) (sym here) ∙ is)

  found : (fuel p : ℕ) → fields_of (layout_from fuel format p) ≡ bad n → (p ≤ n) × (piece_at format n ≡ Bad)
  unfolding layout_from
  found zero p e = clash (cc)
  found (suc fuel) p e = found_in (piece_at format p) p (layout_from fuel format) (found fuel) refl e

  -- before it all are good
  good_in : (q : Piece) (p : ℕ) (rest cut : ℕ → Layout)
      → ((next : ℕ) → fields_of (rest next) ≡ bad n → next ≤ n)
      → ((next : ℕ) → fields_of (rest next) ≡ bad n → fields_of (cut next) ≡ good)
      → piece_at format p ≡ q → fields_of (laid_out q p rest) ≡ bad n → fields_of (laid_out (piece_at (take n format) p) p cut) ≡ good
  good_in End p rest cut far goods is e = clash (cc)
  good_in (Copied c) p rest cut far goods is e =
      subst (λ q. fields_of (laid_out q p cut) ≡ good) (sym (copied_kept format n p c is (omega (arith, far (p + 1) e)))) (goods (p + 1) e)
  good_in Percent p rest cut far goods is e =
      subst (λ q. fields_of (laid_out q p cut) ≡ good) (sym (percent_kept format n p is (omega (arith, far (p + 2) e)))) (goods (p + 2) e)
  good_in (Shown field) p rest cut far goods is e =
      subst (λ q. fields_of (laid_out q p cut) ≡ good) (sym (all_kept format n p (omega (arith, far (p + 3) e)) ∙ is)) (goods (p + 3) e)
  good_in Bad p rest cut far goods is e =
      let here : p ≡ n = cc in subst (λ q. fields_of (laid_out q p cut) ≡ good) (sym (cut_ends format n p (omega arith))) refl

  good_before : (fuel fuel' p : ℕ) → fields_of (layout_from fuel format p) ≡ bad n → fields_of (layout_from fuel' (take n format) p) ≡ good
  unfolding layout_from
  good_before zero fuel' p e = clash (cc)
  good_before (suc fuel) zero p e = refl
  good_before (suc fuel) (suc fuel') p e =
      good_in (piece_at format p) p (layout_from fuel format) (layout_from fuel' (take n format)) (λ next h. (found fuel next h).0)
      (good_before fuel fuel') refl e

  module _ (e : fields_of (layout_of format) ≡ bad n) where
    pub bad_at : piece_at format n ≡ Bad
    bad_at = (found (suc (length format)) 0 e).1

    pub leftmost : fields_of (layout_of (take n format)) ≡ good
    leftmost = good_before (suc (length format)) (suc (length (take n format))) 0 e
