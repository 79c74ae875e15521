-- The order of a translation's refusals: 18 for the text comes first, then the judgement of the tables decides, then that of the index.
use mathlib.Core.List.{List}
use mathlib.Core.Path.{◌≡◌, refl, ap, sym, subst, ◌∙◌}
use Prim.Native.Nat.{ℕ, ◌≤◌, ◌<◌}
use native.Mathlib.Decide.{dec_lt}
use native.Mathlib.Omega.{arith}
use lib.ListN.{length}
use Rattle.paper.specs.Refusals.{longest}
use Rattle.paper.specs.declared.refusals.Refusal.TheVariants.{OverLength}
use Rattle.variables.specs.Judgements.{judged, Judgement, judged_by}
use Rattle.std.specs.Prelude.{Result}
use Rattle.paper.specs.declared.refusals.BadTableOf.{BadTableOf}
use Rattle.variables.proofs.Judging as Judging
use Rattle.indexes.specs.Indexes.{Given, fits}
use Rattle.gs.specs.Translations.{Translation, reading_of, refused_at, translated_over, translated}

module _ (text farm house : List ℕ) (given : Given) (flags allowance room : ℕ) where
  abbrev by_judged : Judgement → Translation
  by_judged j = translated_over j (fits given house) (reading_of text farm house flags) allowance room

  pub too_long : longest < length text → refused_at OverLength 0 0 room ≡ translated text farm house given flags allowance room
  unfolding translated
  too_long h = ap by_judged (sym (Judging.over text farm house h))

  pub over : (d : Result ℕ BadTableOf) → length text ≤ longest → judged farm house ≡ d
      → translated_over (judged_by d) (fits given house) (reading_of text farm house flags) allowance room ≡ translated text farm house given flags allowance room
  unfolding translated
  over d h e = ap by_judged (ap judged_by (sym e) ∙ sym (Judging.within text farm house h))

  -- what holds of the answer to a text that is too long, and of any other's by the judgement of its tables, holds of every translation
  pub in_order : (P : Translation → Type 0) → P (refused_at OverLength 0 0 room)
      → (length text ≤ longest → P (translated_over (judged_by (judged farm house)) (fits given house) (reading_of text farm house flags) allowance room))
      → P (translated text farm house given flags allowance room)
  in_order P long short = go (dec_lt longest (length text))
    where
      go : Dec (longest < length text) → P (translated text farm house given flags allowance room)
      go (yes h) = subst P (too_long h) long
      go (no n) =
          let h : length text ≤ longest = omega arith in
          subst P (over (judged farm house) h refl) (short h)
