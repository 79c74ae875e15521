-- The conversion of a form is that of its figures: the number, as many digits of it, and the zero byte.
use mathlib.Core.Bool.{Bool}
use mathlib.Core.Path.{◌≡◌, refl, ap, ◌∙◌}
use mathlib.Core.List.{List}
use Prim.Native.Nat.{ℕ}
use lib.ListN.{length}
use Rattle.paper.specs.Layings.{laying, laid_in, Converted, converted_by}
use Rattle.forms.specs.Strings.{Form, count, string}
use Rattle.forms.specs.Calls.{decimal, known}
use Rattle.forms.specs.inner.Steps.{number_in}
use Rattle.forms.specs.declared.forms.Width.{Width}
use Rattle.forms.specs.declared.size.Number.{Number}
use Rattle.numbers.specs.Conversions.{answer_in, buffer_in}
use Rattle.numbers.specs.inner.Steps.{string_of, decimal_figures}
use Rattle.numbers.specs.declared.digits.Figures.{Figures}

module _ (form : Form) (value : ℕ) (number : Number) (k : ℕ) where
  abbrev figures : Figures
  figures = record { number = number; base = form.base; count = k; spaced = form.spaced }

  module _ (n : number ≡ number_in form.signed form.width value) (d : k ≡ count form number.magnitude) where
    pub string_is : string_of figures ≡ string form value
    unfolding string
    string_is =
        ap (λ k. string_of (record { number = number; base = form.base; count = k; spaced = form.spaced })) d
        ∙ ap (λ n. string_of (record { number = n; base = form.base; count = count form n.magnitude; spaced = form.spaced })) n

    pub converted : (buf : List ℕ) {r : Converted} {left : List ℕ}
        → (r ≡ converted_by (laying (string_of figures) form.terminated (length buf))) × (left ≡ laid_in (string_of figures) form.terminated buf)
        → (r ≡ converted_by (answer_in (known form) value (length buf))) × (left ≡ buffer_in (known form) value buf)
    converted buf (a, l) =
        (a ∙ ap (λ s. converted_by (laying s form.terminated (length buf))) string_is, l ∙ ap (λ s. laid_in s form.terminated buf) string_is)

-- all the digits of a number are its decimal
pub decimal_is : (signed spaced terminated : Bool) (width : Width) (value : ℕ)
    → string_of (decimal_figures signed spaced width value) ≡ string (decimal signed spaced terminated width) value
decimal_is signed spaced terminated width value = string_is (decimal signed spaced terminated width) value _ _ refl refl
