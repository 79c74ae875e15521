-- The room that is claimed for a string: the two ways that it comes out, and what the buffer holds once the characters are written.
use mathlib.Core.Bool.{Bool}
use mathlib.Core.List.{List, ◌++◌, append_assoc}
use mathlib.Core.Path.{◌≡◌, refl, ap, sym, subst₂, ◌∙◌}
use Prim.Native.Nat.{ℕ, ◌-◌, ◌≤◌, ◌<◌}
use native.Mathlib.Decide.{dec_lt}
use native.Mathlib.Omega.{arith}
use lib.Dec.{ltb}
use lib.ListN.{length, take, drop}
use lib.Seq.{sets, sets-eq, length-sets, drop_at, length-take-le}
use Rattle.std.specs.Prelude.{Ok, Err}
use Rattle.std.specs.Result.{IsErrAnd}
use Rattle.std.proofs.lemmas.Result.{err_from_is_err_and}
use Rattle.paper.specs.Layings.{terminator, room_of, laying, laying_of, laid_in, Converted, converted_by, converted_answer}
use Rattle.paper.specs.inner.Claims.{claimed_in}
use Rattle.paper.specs.declared.layings.Written.{Written}
use Rattle.paper.specs.declared.layings.NotWritten.{NotWritten}
use Rattle.paper.specs.declared.refusals.Refusal.TheVariants.{NoRoom}
use Rattle.paper.proofs.Choice.{below, not_below, either, clash}

-- the code's answer has every number of the paper's
pub laying_kept : (characters : ℕ) (terminated : Bool) (room : ℕ)
    → converted_answer (converted_by (laying_of characters terminated room)) ≡ laying_of characters terminated room
unfolding laying_of
laying_kept characters terminated room =
    either (λ a. converted_answer (converted_by a) ≡ a) (ltb room (room_of characters terminated)) (λ _. refl) (λ _. refl)

data Claim (characters : ℕ) (terminated : Bool) (buf : List ℕ) : Converted → List ℕ → Type 0 where
  unclaimed : length buf < room_of characters terminated
      → Claim characters terminated buf (Err (record { why = NoRoom; at = record { 0 = 0 }; need = room_of characters terminated; free = length buf })) buf
  claimed : room_of characters terminated ≤ length buf
      → Claim characters terminated buf (Ok (record { offset = characters; need = room_of characters terminated; free = length buf - characters })) (sets buf characters (terminator terminated))

claim_of : (characters : ℕ) (terminated : Bool) (buf : List ℕ)
    → Claim characters terminated buf (converted_by (laying_of characters terminated (length buf))) (claimed_in characters terminated buf)
unfolding laying_of claimed_in
claim_of characters terminated buf = go (dec_lt (length buf) (room_of characters terminated))
  where
    go : Dec (length buf < room_of characters terminated)
        → Claim characters terminated buf (converted_by (laying_of characters terminated (length buf))) (claimed_in characters terminated buf)
    go (yes less) =
        subst₂ (Claim characters terminated buf)
        (ap converted_by (below (length buf) (room_of characters terminated) _ _ less refl))
        (below (length buf) (room_of characters terminated) _ _ less refl)
        (unclaimed less)
    go (no more) =
        let room : room_of characters terminated ≤ length buf = omega arith in
        subst₂ (Claim characters terminated buf)
        (ap converted_by (not_below (length buf) (room_of characters terminated) _ _ room refl))
        (not_below (length buf) (room_of characters terminated) _ _ room refl)
        (claimed room)

-- a string of so many characters, and what a claim of that room answered and left
module _
    (string : List ℕ)
    (characters : ℕ)
    (long : length string ≡ characters)
    (terminated : Bool)
    (buf after : List ℕ)
    (r : Converted)
    (answered : r ≡ converted_by (laying_of characters terminated (length buf)))
    (left : after ≡ claimed_in characters terminated buf) where
  claim : Claim (length string) terminated buf r after
  claim =
      subst₂ (Claim (length string) terminated buf)
      (sym (answered ∙ ap (λ n. converted_by (laying_of n terminated (length buf))) (sym long)))
      (sym (left ∙ ap (λ n. claimed_in n terminated buf) (sym long)))
      (claim_of (length string) terminated buf)

  -- what is answered of the room is answered of the string
  pub answers : r ≡ converted_by (laying string terminated (length buf))
  answers = answered ∙ ap (λ n. converted_by (laying_of n terminated (length buf))) (sym long)

  -- and so is what a `?` hands on where there was none
  pub handed_on : (result : Converted) (refused : NotWritten) → IsErrAnd result (λ e. e ≡ refused) → r ≡ Err refused
      → result ≡ converted_by (laying string terminated (length buf))
  handed_on result refused handed is = let e = err_from_is_err_and result handed in e.1 ∙ ap Err e.2 ∙ sym is ∙ answers

  -- in claimed room the characters make the string whole
  pub fits : (written : Written) → r ≡ Ok written → characters ≤ length after
  fits written e = go claim e
    where
      go : {r : Converted} {after : List ℕ} → Claim (length string) terminated buf r after → r ≡ Ok written → characters ≤ length after
      go (unclaimed less) e = absurd (clash (cc))
      go (claimed room) e = omega (arith, long, length-sets buf (length string) (terminator terminated))

  behind : room_of (length string) terminated ≤ length buf
      → string ++ drop (length string) (sets buf (length string) (terminator terminated)) ≡ laid_in string terminated buf
  unfolding laid_in
  behind room =
      let head : length (take (length string) buf) ≡ length string = length-take-le (length string) buf (omega arith) in
      let rest = drop (room_of (length string) terminated) buf in
      not_below (length buf) (room_of (length string) terminated) _ _ room
      (ap (λ l. string ++ l)
      (ap (drop (length string)) (sets-eq (terminator terminated) buf (length string) room ∙ append_assoc (take (length string) buf) (terminator terminated) rest)
      ∙ drop_at (take (length string) buf) (terminator terminated ++ rest) (length string) head))

  pub whole : (written : Written) → r ≡ Ok written → (last : List ℕ) → last ≡ string ++ drop characters after → last ≡ laid_in string terminated buf
  whole written e last l = l ∙ ap (λ n. string ++ drop n after) (sym long) ∙ go claim e
    where
      go : {r : Converted} {after : List ℕ} → Claim (length string) terminated buf r after → r ≡ Ok written
          → string ++ drop (length string) after ≡ laid_in string terminated buf
      go (unclaimed less) e = absurd (clash (cc))
      go (claimed room) e = behind room

  -- where there was none, nothing changed
  pub kept : (refused : NotWritten) → r ≡ Err refused → after ≡ laid_in string terminated buf
  unfolding laid_in
  kept refused e = go claim e
    where
      go : {r : Converted} {after : List ℕ} → Claim (length string) terminated buf r after → r ≡ Err refused → after ≡ laid_in string terminated buf
      go (unclaimed less) e = below (length buf) (room_of (length string) terminated) _ _ less refl
      go (claimed room) e = absurd (clash (cc))
