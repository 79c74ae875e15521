-- The three kinds: the number of the kind that a number stands for is that number, and no kind has a number above 2.
use mathlib.Core.Path.{◌≡◌, refl}
use Prim.Native.Nat.{ℕ, zero, suc, ◌≤◌}
use native.Mathlib.Omega.{arith}
use Rattle.records.specs.Records.{macro_kind}
use Rattle.records.specs.Kinds.{kind_of, kind_number}
use Rattle.records.specs.declared.kinds.Kind.{Kind}
use Rattle.records.specs.declared.kinds.Kind.TheVariants.{Text, Integer, Macro}

pub kind_number_lem : (kind : ℕ) → kind ≤ macro_kind → kind_number (kind_of kind) ≡ kind
kind_number_lem zero h = refl
kind_number_lem (suc zero) h = refl
kind_number_lem (suc (suc zero)) h = refl
kind_number_lem (suc (suc (suc n))) h = absurd (omega arith)

pub kind_bounded : (k : Kind) → kind_number k ≤ macro_kind
kind_bounded Text = omega arith
kind_bounded Integer = omega arith
kind_bounded Macro = omega arith
