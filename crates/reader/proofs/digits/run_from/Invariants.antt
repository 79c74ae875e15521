-- `run_from` meets its contract. The loop's invariant, `Reached`: only digits were passed, and the value is what they are worth.
use mathlib.Core.List.{List}
use mathlib.Core.Path.{◌≡◌}
use Prim.Native.Nat.{ℕ, ◌<◌}
use lib.ListN.{drop}
use Rattle.reader.specs.Reading.{run, worth}
use Rattle.reader.proofs.Laws.{Passed}
use Rattle.reader.proofs.digits.run_from.Given as goal

pub record Reached (text : List ℕ) (first base value at : ℕ) : Type 0 where
  pub small : value < 4294967296
  pub passed : Passed text first base at
  pub worths : worth base 0 (run base (drop first text)) ≡ worth base value (run base (drop at text))

abbrev pub invariant-loop-at : goal.invariant-loop-at
invariant-loop-at l = Reached l.text l.first l.base l.value l.at
