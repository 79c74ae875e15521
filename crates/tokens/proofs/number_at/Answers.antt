-- `number_at` meets its contract: the places of what the reader answers are bounded.
use mathlib.Core.Bool.{false}
use mathlib.Core.List.{List}
use mathlib.Core.Path.{◌≡◌}
use Prim.Native.Nat.{ℕ, ◌≤◌}
use native.Mathlib.Omega.{arith}
use Rattle.std.specs.Prelude.{Result}
use Rattle.paper.specs.Refusals.{longest}
use Rattle.paper.specs.declared.refusals.Refused.{Refused}
use Rattle.reader.specs.Reading.{no_limit, read_place, reading}
use Rattle.reader.specs.declared.Number.{Number}
use Rattle.reader.proofs.Bounds.{reading_bounded}
use Rattle.tokens.proofs.number_at.Goals as goal

placed : (text : List ℕ) {r : Result Number Refused} → r ≡ reading text false no_limit → read_place r ≤ longest
placed text e = rw e (reading_bounded text false no_limit).place

pub overflow_add-result : goal.overflow_add-result
overflow_add-result c = let h = rw c.in-Ok.is at (placed _ c.read_unsigned.ensures) in omega arith

pub overflow_add-result-in-Err : goal.overflow_add-result-in-Err
overflow_add-result-in-Err c = let h = rw c.in-Err.is at (placed _ c.read_unsigned.ensures) in omega arith
