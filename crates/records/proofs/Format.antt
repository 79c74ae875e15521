-- The bytes of a whole record, and what is behind it.
use mathlib.Core.List.{List, [], ◌∷◌, ◌++◌, append_assoc}
use mathlib.Core.Path.{◌≡◌, refl, ap, sym, ◌∙◌}
use Prim.Native.Nat.{ℕ, ◌+◌, ◌≤◌}
use native.Mathlib.Nat.{add-zero}
use native.Mathlib.Omega.{arith}
use lib.ListN.{length, get_or, take, drop, length-drop, take-append-drop}
use lib.Seq.{get_or-drop, drop-drop}
use Rattle.records.specs.Records.{name_length, value_length, value_start, next_place, name_at, value_at, entry_at, record_bytes}
use Rattle.records.proofs.Whole.{Whole}

-- the first five of some bytes
five : (l : List ℕ) → 5 ≤ length l → l ≡ get_or l 0 0 ∷ get_or l 1 0 ∷ get_or l 2 0 ∷ get_or l 3 0 ∷ get_or l 4 0 ∷ drop 5 l
five [] h = absurd (omega arith)
five (a ∷ []) h = absurd (omega arith)
five (a ∷ b ∷ []) h = absurd (omega arith)
five (a ∷ b ∷ c ∷ []) h = absurd (omega arith)
five (a ∷ b ∷ c ∷ d ∷ []) h = absurd (omega arith)
five (a ∷ b ∷ c ∷ d ∷ e ∷ l) h = refl

module _ (table : List ℕ) (place : ℕ) where
  -- a name and a value, and what is behind them
  parts : drop (place + 5) table ≡ (name_at table place ++ value_at table place) ++ drop (next_place table place) table
  unfolding name_at value_at
  parts =
      let name = take (name_length table place) (drop (place + 5) table) in
      let value = take (value_length table place) (drop (value_start table place) table) in
      let rest = drop (next_place table place) table in
      sym (take-append-drop (name_length table place) (drop (place + 5) table))
      ∙ ap (◌++◌ name) (drop-drop (name_length table place) (place + 5) table
      ∙ sym (take-append-drop (value_length table place) (drop (value_start table place) table))
      ∙ ap (◌++◌ value) (drop-drop (value_length table place) (value_start table place) table))
      ∙ sym (append_assoc name value rest)

  -- a whole record, and what is behind it
  pub whole_bytes : Whole table (entry_at table place) → drop place table ≡ record_bytes (entry_at table place) ++ drop (next_place table place) table
  unfolding entry_at
  whole_bytes w =
      let inside : 5 ≤ length (drop place table) = omega (arith, length-drop place table, w.inside) in
      let first : get_or (drop place table) 0 0 ≡ 86 = get_or-drop place table 0 0 ∙ ap (λ n. get_or table n 0) (add-zero place) ∙ w.mark_first in
      let second : get_or (drop place table) 1 0 ≡ 82 = get_or-drop place table 1 0 ∙ w.mark_second in
      let third = get_or-drop place table 2 0 in
      let fourth : get_or (drop place table) 3 0 ≡ length (name_at table place) = get_or-drop place table 3 0 ∙ sym w.name_length_is in
      let fifth : get_or (drop place table) 4 0 ≡ length (value_at table place) = get_or-drop place table 4 0 ∙ sym w.value_length_is in
      let rest = drop-drop 5 place table ∙ parts in
      cc (five (drop place table) inside)
