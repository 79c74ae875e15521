-- `nos_translate` meets its contract: the numbers of `translate`'s answer.
use mathlib.Core.Path.{◌≡◌, ap, ap₂, ◌∙◌}
use Prim.Native.Nat.{ℕ}
use lib.ListN.{length}
use Rattle.indexes.specs.Indexes.{Given}
use Rattle.gs.specs.Translations.{translated, translated_answer, out_after}
use Rattle.nosgoludd.specs.Faces.{answer_face}
use Rattle.nosgoludd.proofs.translations.nos_translate.Goals as goal

-- what holds with the index and the flags as they are kept holds with what they came from
carried : {A : Type 0} (f : Given → ℕ → A) {index given : Given} {kept flags : ℕ} {r : A} → r ≡ f index kept → index ≡ given → kept ≡ flags → r ≡ f given flags
carried f e g k = e ∙ ap₂ f g k

pub returns : goal.returns
returns c =
    let a = c.args in
    let g = c.index_given.ensures in
    record {
      answer = c.from.ensures
          ∙ ap (λ r. answer_face (translated_answer r))
          (carried (λ given f. translated a.text.now a.farm.now a.house.now given f a.allowance (length a.out.now)) c.translate.ensures.answer g c.of.ensures);
      buffer = carried (λ given f. out_after a.text.now a.farm.now a.house.now given f a.allowance a.out.now) c.translate.ensures.buffer g c.of.ensures;
    }
