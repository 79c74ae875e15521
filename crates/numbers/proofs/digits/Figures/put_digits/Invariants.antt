-- `put_digits` meets its contract: at the loop's head the digits that are done stand where they belong.
use mathlib.Core.Path.{◌≡◌}
use mathlib.Core.List.{◌++◌}
use Prim.Native.Nat.{◌+◌, ◌-◌, ◌/◌, ◌^◌, ◌≤◌}
use lib.ListN.{take, drop}
use Rattle.forms.specs.Digits.{digits}
use Rattle.forms.specs.Strings.{radix}
use Rattle.numbers.specs.inner.Steps.{spread_of}
use Rattle.numbers.proofs.Laws.{group_of}
use Rattle.numbers.proofs.digits.Figures.put_digits.Given as goal

abbrev pub invariant-loop-done : goal.invariant-loop-done
invariant-loop-done l =
    (l._done ≤ l.self.count)
    × (l.at + spread_of l.self.spaced l._done ≡ l.end)
    × (l.rest ≡ l.self.number.magnitude / radix l.self.base ^ l._done)
    × (l.buf ≡ take l.at l.initial.buf ++ (digits (radix l.self.base) l.self.spaced l._done l.self.number.magnitude ++ drop l.end l.initial.buf))
    × (l.group ≡ group_of l._done)

abbrev pub decreases-loop-done : goal.decreases-loop-done
decreases-loop-done l = l.self.count - l._done
