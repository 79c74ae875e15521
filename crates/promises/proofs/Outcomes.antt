-- How a conversion can come out, of every answer and buffer that its contract allows.
use mathlib.Core.Path.{◌≡◌, refl, ap, sym, subst₂, ◌∙◌}
use mathlib.Core.List.{List}
use Prim.Native.Nat.{ℕ}
use native.Mathlib.Omega.{arith}
use lib.ListN.{length}
use Rattle.paper.specs.Answers.{in_text, Answer, refusal}
use Rattle.paper.specs.Refusals.{unknown_call}
use Rattle.paper.proofs.Laid as Laid
use Rattle.forms.specs.Strings.{Form, string}
use Rattle.forms.specs.Calls.{Described, unknown, known, described}
use Rattle.paper.specs.Layings.{Converted, converted_answer}
use Rattle.numbers.specs.Conversions.{answer_in, buffer_in, answer_of, buffer_of}
use Rattle.numbers.proofs.PaperNumbers.{converted_kept}
use Rattle.promises.specs.Allowed.{Converts}

-- an unknown call is refused, and a known one lays its string
pub data Outcome (call value : ℕ) (buf : List ℕ) : Answer → List ℕ → Type 0 where
  refuses : described call ≡ unknown → Outcome call value buf (refusal unknown_call in_text 0 (length buf)) buf
  lays : {a : Answer} {after : List ℕ} (form : Form) → described call ≡ known form → Laid.Outcome (string form value) form.terminated buf a after
      → Outcome call value buf a after

-- a call has one form, or none
pub one_form : (call : ℕ) (f g : Form) → described call ≡ known f → described call ≡ known g → f ≡ g
one_form call f g p q = cc

pub not_both : (call : ℕ) (f : Form) → described call ≡ unknown → described call ≡ known f → ⊥
not_both call f p q = let z : ◌≡◌ {A = ℕ} 0 1 = cc in omega arith

module _ (call value : ℕ) (buf : List ℕ) where
  described_as : (d : Described) → described call ≡ d → Outcome call value buf (answer_in d value (length buf)) (buffer_in d value buf)
  described_as unknown k = refuses k
  described_as (known form) k = lays form k (Laid.outcome (string form value) form.terminated buf)

  defined : Outcome call value buf (answer_of call value (length buf)) (buffer_of call value buf)
  unfolding answer_of buffer_of
  defined = described_as (described call) refl

  pub outcome : (r : Converted) (after : List ℕ) → Converts call value buf r after → Outcome call value buf (converted_answer r) after
  outcome r after c =
      subst₂ (Outcome call value buf) (sym (ap converted_answer c.answer ∙ converted_kept call value (length buf))) (sym c.buffer) defined
