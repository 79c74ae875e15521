-- Notes of keys: a note is there from then on, and where a key's is not there, no noted line has that key.
use mathlib.Core.Bool.{true, false, ◌||◌, or-true, false≢true}
use mathlib.Core.List.{List}
use mathlib.Core.Path.{◌≡◌, refl, ap, sym, ◌∙◌}
use Prim.Native.Nat.{ℕ, ◌+◌, ◌%◌, ◌<◌, ◌≤◌}
use native.Mathlib.Omega.{arith}
use borrow.Author.Count.{below_more}
use borrow.Author.Tests.{eq-eqb}
use lib.Dec.{eqb}
use lib.ListN.{length, get_or, set, take}
use lib.Seq.{get_or-set_same, get_or-set_other, get_or-take, length-take-le}
use Rattle.paper.specs.declared.bits.Bits.{Bits}
use Rattle.paper.specs.inner.Bits.{holds}
use Rattle.variables.specs.inner.Notes.{noted, AllNoted}

pub none_noted : (notes : Bits 64) (keys : List ℕ) → AllNoted notes keys 0
none_noted notes keys = record { each = λ k h. absurd (omega arith) }

-- a line that is laid after the noted ones, and noted
module _ (notes : Bits 64) (keys : List ℕ) (count line : ℕ) (room : count < length keys) (m : AllNoted notes keys count) where
  abbrev keys₁ : List ℕ
  keys₁ = set keys count line

  module _ (next : Bits 64) (law : (other : ℕ) → noted next other ≡ (eqb (other % 2048) (line % 2048) || noted notes other)) where
    before : (k : ℕ) → k < count → noted next (get_or keys₁ k 0) ≡ true
    before k h = rw (get_or-set_other keys count k line 0 (λ e. omega arith), law (get_or keys k 0), m.each k h) (or-true _)

    here : noted next (get_or keys₁ count 0) ≡ true
    here = rw (get_or-set_same keys count line 0 room, law line, eq-eqb (line % 2048) (line % 2048) refl)

    pub noted_more : AllNoted next keys₁ (count + 1)
    noted_more = record { each = below_more (λ k. noted next (get_or keys₁ k 0) ≡ true) count before here }

-- the lines of a part from the start
pub noted_part :
    (notes : Bits 64) (keys : List ℕ) (count size : ℕ) → size ≡ count → count ≤ length keys → AllNoted notes keys count →
    AllNoted notes (take size keys) (length (take size keys))
noted_part notes keys count size e inside m =
    let l = length-take-le size keys (omega arith) in
    record { each = λ k h. rw (get_or-take size keys k 0 (omega arith)) (m.each k (omega arith)) }

-- where a line's note is not there, no noted line has its key
pub other_keys :
    (notes : Bits 64) (keys : List ℕ) (count line : ℕ) → AllNoted notes keys count → noted notes line ≡ false →
    (k : ℕ) → k < count → get_or keys k 0 % 32768 ≡ line % 32768 → ⊥
other_keys notes keys count line m e k h same =
    let number : get_or keys k 0 % 2048 ≡ line % 2048 = omega arith in
    false≢true (sym e ∙ ap (holds notes.words) (sym number) ∙ m.each k h)
