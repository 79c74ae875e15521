-- `is_named` meets its contract: names are compared only where the keys are equal.
use borrow.Author.Tests.{eq-eqb, ne_eqb}
use Rattle.records.specs.Records.{entry_at}
use Rattle.variables.specs.inner.Keys.{record_by}
use Rattle.variables.proofs.keys.is_named.Goals as goal

pub returns-then-line-key : goal.returns-then-line-key
unfolding record_by entry_at
returns-then-line-key c =
    rw (eq-eqb _ _ c.if-line-key.true)
    (rw (c.same_name.ensures, c.name_at.ensures, c.place_in.ensures, c.held_by-table.ensures, c.holder_of.ensures))

pub returns : goal.returns
returns c = rw (ne_eqb _ _ c.if-line-key.false)
