-- What holds of every string that is laid, a number's and a date's alike, and of the refusals beside No room.
use mathlib.Core.Path.{◌≡◌, refl, sym, subst}
use mathlib.Core.Bool.{Bool, true}
use mathlib.Core.List.{List, ◌++◌}
use mathlib.Core.Logic.{◌↔◌}
use Prim.Native.Nat.{ℕ, ◌+◌, ◌≤◌}
use native.Mathlib.Omega.{arith}
use lib.Dec.{eqb}
use lib.ListN.{length, drop}
use Rattle.paper.specs.Answers.{in_text, Answer, refusal, GrownWhole}
use Rattle.paper.specs.Layings.{terminator, room_for, Converted, converted_by, converted_answer}
use Rattle.paper.specs.Refusals.{refusal_of}
use Rattle.paper.proofs.Choice.{clash, either}
use Rattle.paper.proofs.Refused.{refused_above}
use Rattle.paper.proofs.Laid.{Outcome, no_room_for, laid}
use Rattle.promises.specs.Accepted.{is_converted}

-- an answer as the code has it is accepted exactly where its number is 0
pub accepts_by : (a : Answer) (r : Converted) → r ≡ converted_by a → ((converted_answer r).number ≡ 0) ↔ (is_converted r ≡ true)
accepts_by a r e =
    subst (λ r. ((converted_answer r).number ≡ 0) ↔ (is_converted r ≡ true)) (sym e)
    (either (λ r. ((converted_answer r).number ≡ 0) ↔ (is_converted r ≡ true)) (eqb a.number 0)
    (λ _. (λ _. refl, λ _. refl)) (λ _. (λ z. absurd (refused_above (refusal_of a.number) z), λ z. clash (cc))))

module _ (string : List ℕ) (terminated : Bool) (buf : List ℕ) where
  -- an accepted string's offset, and what it leaves
  pub written : (a : Answer) (after : List ℕ) → a.number ≡ 0 → Outcome string terminated buf a after
      → (a.place ≡ length string) × (after ≡ string ++ (terminator terminated ++ drop (room_for string terminated) buf))
  written a after accepted (no_room_for less) = absurd (omega arith)
  written a after accepted (laid room) = (refl, refl)

  pub summed : (a : Answer) (after : List ℕ) → a.number ≡ 0 → Outcome string terminated buf a after → a.place + a.free ≡ length buf
  summed a after accepted (no_room_for less) = absurd (omega arith)
  summed a after accepted (laid room) = omega arith

  -- the room that one carries is enough for another that takes as much
  pub again : (string' : List ℕ) (terminated' : Bool) (buf' : List ℕ) → room_for string' terminated' ≡ room_for string terminated
      → (a a' : Answer) (after after' : List ℕ) → Outcome string terminated buf a after → Outcome string' terminated' buf' a' after'
      → (a'.need ≡ a.need) × ((a'.number ≡ 0) ↔ (a.need ≤ length buf'))
  again string' terminated' buf' alike a a' after after' (no_room_for less) (no_room_for less') =
      (alike, (λ e. absurd (omega arith), λ enough. absurd (omega arith)))
  again string' terminated' buf' alike a a' after after' (no_room_for less) (laid room) = (alike, (λ _. omega arith, λ _. refl))
  again string' terminated' buf' alike a a' after after' (laid room) (no_room_for less') =
      (alike, (λ e. absurd (omega arith), λ enough. absurd (omega arith)))
  again string' terminated' buf' alike a a' after after' (laid room) (laid room') = (alike, (λ _. omega arith, λ _. refl))

-- a refusal beside No room stays the same in a larger room
pub refusal_grows : (number place more : ℕ) (buf buf' : List ℕ) → length buf' ≡ length buf + more
    → GrownWhole buf buf' buf' more (refusal number in_text place (length buf)) (refusal number in_text place (length buf'))
refusal_grows number place more buf buf' longer =
    record { answer = record { number = refl; counted = refl; place = refl; need = refl; free = longer }; written = refl; behind = refl }
