-- `find` meets its contract. The loop's invariant: which record the name means hangs on the lines that are left.
use mathlib.Core.Path.{◌≡◌}
use lib.ListN.{drop}
use Rattle.variables.specs.inner.Keys.{sought_by}
use Rattle.variables.proofs.keys.find.Given as goal

abbrev pub invariant-loop-line : goal.invariant-loop-line
invariant-loop-line l = sought_by l.tables.farm.now l.tables.house.now l.keys l.name ≡ sought_by l.tables.farm.now l.tables.house.now (drop l.line-index l.line-items) l.name
