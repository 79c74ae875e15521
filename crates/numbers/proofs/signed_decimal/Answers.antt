-- `signed_decimal` meets its contract: its string is that of the decimal form, which never has more than eleven characters.
use mathlib.Core.Bool.{true, false}
use mathlib.Core.List.{List, ◌++◌}
use mathlib.Core.Path.{◌≡◌, ap, ap₂, sym, ◌∙◌}
use Prim.Native.Nat.{ℕ}
use native.Mathlib.Omega.{arith}
use lib.ListN.{length, drop}
use Rattle.forms.specs.Calls.{decimal_of}
use Rattle.forms.specs.declared.forms.Width.TheVariants.{Word}
use Rattle.numbers.specs.inner.Steps.{string_of, characters_of, decimal_figures}
use Rattle.numbers.specs.declared.digits.Figures.{Figures}
use Rattle.numbers.proofs.Laws.{string_length}
use Rattle.numbers.proofs.Bounds.{decimal_short}
use Rattle.numbers.proofs.Parts.{decimal_is}
use Rattle.numbers.proofs.signed_decimal.Goals as goal

-- the string is the decimal's, and so is its length
module _ (value : ℕ) {figures : Figures} (f : figures ≡ decimal_figures true false Word value) where
  laid : string_of figures ≡ decimal_of value
  laid = ap string_of f ∙ decimal_is true false false Word value

  counted : {size : ℕ} → size ≡ characters_of figures → size ≡ length (decimal_of value)
  counted s = s ∙ sym (string_length figures) ∙ ap length laid

-- a string at the start of a buffer, as the decimal that it is
stands : (string decimal : List ℕ) (size : ℕ) (out after : List ℕ) → string ≡ decimal → size ≡ length decimal → after ≡ string ++ drop size out
    → after ≡ decimal ++ drop (length decimal) out
stands string decimal size out after s n e = e ∙ ap₂ (λ s n. s ++ drop n out) s n

pub lay-requires : goal.lay-requires
lay-requires c =
    let size = counted c.args.value c.decimal_figures-figures.ensures c.characters-length.ensures.0 in
    (c.characters-length.ensures.0, omega (arith, size, decimal_short true false Word c.args.value))

pub returns : goal.returns
returns c =
    let a = c.args in
    let size = counted a.value c.decimal_figures-figures.ensures c.characters-length.ensures.0 in
    record {
      length = (size, omega (arith, size, decimal_short true false Word a.value));
      buffer = stands _ _ _ a.out.now _ (laid a.value c.decimal_figures-figures.ensures) size c.lay.ensures;
    }
