-- A string that is laid into a lent buffer: the two ways that it comes out, and what a larger room changes.
use mathlib.Core.Bool.{Bool}
use mathlib.Core.List.{List, ◌++◌, append_assoc}
use mathlib.Core.Path.{◌≡◌, refl, ap, sym, subst₂, ◌∙◌}
use Prim.Native.Nat.{ℕ, ◌+◌, ◌-◌, ◌≤◌, ◌<◌}
use native.Mathlib.Decide.{dec_lt}
use native.Mathlib.Omega.{arith}
use lib.ListN.{length, take, drop, length-append}
use lib.Seq.{take_at, drop_at}
use Rattle.paper.specs.Answers.{in_text, Answer, GrownWhole}
use Rattle.paper.specs.Layings.{terminator, room_for, laying, laying_of, laid_in}
use Rattle.paper.specs.Refusals.{no_room}
use Rattle.paper.proofs.Choice.{below, not_below}

pub data Outcome (string : List ℕ) (terminated : Bool) (buf : List ℕ) : Answer → List ℕ → Type 0 where
  no_room_for : length buf < room_for string terminated
      → Outcome string terminated buf (record { number = no_room; counted = in_text; place = 0; need = room_for string terminated; free = length buf }) buf
  laid : room_for string terminated ≤ length buf
      → Outcome string terminated buf
      (record { number = 0; counted = in_text; place = length string; need = room_for string terminated; free = length buf - length string })
      (string ++ (terminator terminated ++ drop (room_for string terminated) buf))

pub outcome : (string : List ℕ) (terminated : Bool) (buf : List ℕ)
    → Outcome string terminated buf (laying string terminated (length buf)) (laid_in string terminated buf)
unfolding laying_of laid_in
outcome string terminated buf = go (dec_lt (length buf) (room_for string terminated))
  where
    go : Dec (length buf < room_for string terminated) → Outcome string terminated buf (laying string terminated (length buf)) (laid_in string terminated buf)
    go (yes less) =
        subst₂ (Outcome string terminated buf)
        (below (length buf) (room_for string terminated) _ _ less refl)
        (below (length buf) (room_for string terminated) _ _ less refl)
        (no_room_for less)
    go (no more) =
        let room : room_for string terminated ≤ length buf = omega arith in
        subst₂ (Outcome string terminated buf)
        (not_below (length buf) (room_for string terminated) _ _ room refl)
        (not_below (length buf) (room_for string terminated) _ _ room refl)
        (laid room)

-- the string with what ends it, and what is behind them
module _ (string : List ℕ) (terminated : Bool) (rest : List ℕ) where
  abbrev front : List ℕ
  front = string ++ terminator terminated

  take_front : take (room_for string terminated) (string ++ (terminator terminated ++ rest)) ≡ front
  take_front =
      ap (take (room_for string terminated)) (sym (append_assoc string (terminator terminated) rest))
      ∙ take_at front rest (room_for string terminated) (length-append string (terminator terminated))

  drop_front : drop (room_for string terminated) (string ++ (terminator terminated ++ rest)) ≡ rest
  drop_front =
      ap (drop (room_for string terminated)) (sym (append_assoc string (terminator terminated) rest))
      ∙ drop_at front rest (room_for string terminated) (length-append string (terminator terminated))

-- an answer other than No room stays the same in a larger room, with the same bytes
module _ (string : List ℕ) (terminated : Bool) (more : ℕ) (buf buf' : List ℕ) (longer : length buf' ≡ length buf + more) where
  pub grows_by : (a a' : Answer) (after after' : List ℕ) → Outcome string terminated buf a after → Outcome string terminated buf' a' after'
      → (a.number ≡ no_room → ⊥) → GrownWhole after buf' after' more a a'
  grows_by a a' after after' (no_room_for less) o n = absurd (n refl)
  grows_by a a' after after' (laid room) (no_room_for less) n = absurd (omega arith)
  grows_by a a' after after' (laid room) (laid room') n =
      record {
        answer = record { number = refl; counted = refl; place = refl; need = refl; free = omega arith };
        written = take_front string terminated (drop (room_for string terminated) buf') ∙ sym (take_front string terminated (drop (room_for string terminated) buf));
        behind = drop_front string terminated (drop (room_for string terminated) buf');
      }

  pub laid_grows : ((laying string terminated (length buf)).number ≡ no_room → ⊥)
      → GrownWhole (laid_in string terminated buf) buf' (laid_in string terminated buf') more
      (laying string terminated (length buf)) (laying string terminated (length buf'))
  laid_grows = grows_by _ _ _ _ (outcome string terminated buf) (outcome string terminated buf')
