-- `weekday_name` meets its contract: each arm is a name of the list, and no other weekday has one.
use mathlib.Core.Path.{sym}
use Prim.Native.Nat.{◌≤◌}
use native.Mathlib.Omega.{arith}
use Rattle.dates.specs.Fields.{weekday_names}
use Rattle.dates.proofs.Unnamed.{unnamed}
use Rattle.dates.proofs.fields.weekday_name.Goals as goal

pub returns-in_default : goal.returns-in_default
returns-in_default c =
    let weekday = c.args.weekday in
    let more : 7 ≤ weekday = omega arith in
    sym (unnamed weekday_names weekday (omega arith))
