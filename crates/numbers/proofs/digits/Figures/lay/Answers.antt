-- `lay` meets its contract: the digits stand behind the room of the minus, and the minus is written there.
use mathlib.Core.Path.{◌≡◌, ap, ◌∙◌}
use mathlib.Core.Bool.{cond}
use mathlib.Core.List.{List, ◌++◌}
use Prim.Native.Nat.{ℕ, ◌-◌, ◌≤◌}
use native.Mathlib.Omega.{arith}
use lib.ListN.{length, take, drop, set}
use lib.Seq.{sets}
use Rattle.forms.specs.Digits.{digits}
use Rattle.forms.specs.Strings.{radix, minus}
use Rattle.numbers.specs.declared.digits.Figures.{Figures}
use Rattle.numbers.specs.inner.Steps.{spread_of, characters_of, string_of}
use Rattle.numbers.proofs.Laws.{digits_length}
use Rattle.paper.proofs.Stores.{sets_if}
use Rattle.numbers.proofs.Buffer.{signed}
use Rattle.numbers.proofs.digits.Figures.lay.Goals as goal

-- the two stores, one behind the other
stored : (f : Figures) (end : ℕ) (old first second : List ℕ) → end ≡ characters_of f → end ≤ length old
    → first ≡ take (end - spread_of f.spaced f.count) old ++ (digits (radix f.base) f.spaced f.count f.number.magnitude ++ drop end old)
    → second ≡ cond f.number.negative (set first 0 45) first
    → second ≡ string_of f ++ drop end old
stored f end old first second meet fits put signs =
    let sign : List ℕ = minus f.number.negative in
    let middle : List ℕ = digits (radix f.base) f.spaced f.count f.number.magnitude in
    let start : end - spread_of f.spaced f.count ≡ length sign = omega arith in
    let first_is : first ≡ take (length sign) old ++ (middle ++ drop end old) = put ∙ ap (λ m. take m old ++ (middle ++ drop end old)) start in
    signs ∙ sets_if f.number.negative first 0 45 ∙ ap (λ l. sets l 0 sign) first_is
    ∙ signed old sign middle end (omega (arith, digits_length (radix f.base) f.spaced f.count f.number.magnitude)) fits

pub returns : goal.returns
returns c =
    let a = c.args in
    stored a.self a.end a.buf.now _ _ c.requires.0 c.requires.1 c.put_digits.ensures c.put_if.ensures
