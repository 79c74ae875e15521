-- The two passes of a translation: what the measuring one says of the answer, and what the writing one leaves.
use mathlib.Core.Path.{◌≡◌, refl, ap, sym, subst, ◌∙◌}
use mathlib.Core.List.{List, [], ◌∷◌, ◌++◌}
use Prim.Native.Nat.{ℕ, ◌+◌, ◌-◌, ◌≤◌, ◌<◌}
use native.Mathlib.Nat.{zero-add}
use native.Mathlib.Omega.{arith}
use lib.ListN.{length, drop}
use lib.Seq.{sets-eq}
use Rattle.std.specs.Prelude.{Result, Ok, Err}
use Rattle.paper.specs.Refusals.{refusal_number}
use Rattle.paper.specs.declared.refusals.Refusal.TheVariants.{NoRoom}
use Rattle.paper.specs.declared.refusals.Refused.{Refused}
use Rattle.paper.specs.Traces.{Trace, bytes, finished, refused, run, fit, answer}
use Rattle.paper.proofs.Choice.{clash, below, not_below, other}
use Rattle.paper.proofs.Refused.{refused_back, refused_above}
use Rattle.gs.specs.Translations.{refused_at, translated_by}
use Rattle.gs.specs.inner.Steps.{Read, read_ended, read_refused}
use Rattle.gs.specs.declared.steps.Expanded.{Expanded}

-- nothing that was lent and came back is nothing before the rest
pub nothing_lent : (part out : List ℕ) → length part ≡ 0 → part ++ out ≡ out
nothing_lent [] out e = refl
nothing_lent (x ∷ xs) out e = absurd (omega arith)

module _ (t : Trace) (size left : ℕ) (lent after : List ℕ) where
  pub measured_long : (r : Result Expanded Refused) → Read t size left 0 lent after r → length after ≡ length lent
  measured_long r (read_ended end left' runs small laid) = laid.long
  measured_long r (read_refused refusal long runs) = long

  whole : {e : Expanded} → Read t size left 0 lent after (Ok e) → (run t left ≡ finished e.end.0 e.carried.left) × (e.carried.to ≡ length (bytes t))
  whole (read_ended end left' runs small laid) = (runs, zero-add (length (bytes t)))

  pub measured_end : (r : Result Expanded Refused) (e : Expanded) → Read t size left 0 lent after r → r ≡ Ok e
      → (run t left ≡ finished e.end.0 e.carried.left) × (e.carried.to ≡ length (bytes t))
  measured_end r e read is = whole (subst (Read t size left 0 lent after) is read)

  none : {why : Refused} → Read t size left 0 lent after (Err why) → run t left ≡ refused (refusal_number why.why) why.at.0
  none (read_refused why long runs) = runs

  pub measured_refused : (r : Result Expanded Refused) (why : Refused) → Read t size left 0 lent after r → r ≡ Err why
      → run t left ≡ refused (refusal_number why.why) why.at.0
  measured_refused r why read is = none (subst (Read t size left 0 lent after) is read)

  -- the writing pass goes where the measuring one went, and all of it fits
  pub written : (r : Result Expanded Refused) (end left' : ℕ) → Read t size left 0 lent after r → run t left ≡ finished end left' → length (bytes t) ≤ length lent
      → after ≡ bytes t ++ drop (length (bytes t)) lent
  written r end left' (read_ended e l runs small laid) f fits =
      let here : 0 + length (bytes t) ≤ length lent = omega arith in
      laid.fits here ∙ sets-eq (bytes t) lent 0 here ∙ ap (λ n. bytes t ++ drop n lent) (zero-add (length (bytes t)))
  written r end left' (read_refused refusal long runs) f fits = clash (cc)

module _ (t : Trace) (left : ℕ) where
  pub refused_answer : (r : Refused) (room : ℕ) → run t left ≡ refused (refusal_number r.why) r.at.0 → refused_at r.why r.at.0 0 room ≡ translated_by (answer t left room)
  refused_answer r room e =
      other (refusal_number r.why) 0 _ _ (refused_above r.why) (ap (λ w. refused_at w r.at.0 0 room) (sym (refused_back r.why)))
      ∙ ap (λ r. translated_by (fit r (length (bytes t)) room)) (sym e)

  module _ (end left' room : ℕ) (e : run t left ≡ finished end left') where
    pub short_answer : room < length (bytes t) → refused_at NoRoom 0 (length (bytes t)) room ≡ translated_by (answer t left room)
    short_answer h =
        ap translated_by (below room (length (bytes t)) _ _ h refl) ∙ ap (λ r. translated_by (fit r (length (bytes t)) room)) (sym e)

    pub whole_answer : length (bytes t) ≤ room
        → Ok (record { end = record { 0 = end }; need = length (bytes t); free = room - length (bytes t) }) ≡ translated_by (answer t left room)
    whole_answer h =
        ap translated_by (not_below room (length (bytes t)) _ _ h refl) ∙ ap (λ r. translated_by (fit r (length (bytes t)) room)) (sym e)
