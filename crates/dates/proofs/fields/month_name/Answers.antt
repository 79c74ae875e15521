-- `month_name` meets its contract: each arm is a name of the list, and no other month has one.
use mathlib.Core.Path.{sym}
use Prim.Native.Nat.{◌-◌, ◌≤◌}
use native.Mathlib.Omega.{arith}
use Rattle.dates.specs.Fields.{month_names}
use Rattle.dates.proofs.Unnamed.{unnamed}
use Rattle.dates.proofs.fields.month_name.Goals as goal

pub returns-in_default : goal.returns-in_default
returns-in_default c =
    let month = c.args.month in
    let more : 13 ≤ month = omega arith in
    sym (unnamed month_names (month - 1) (omega arith))
