-- `holder_of` meets its contract: its test is the definition's.
use borrow.Author.Tests.{lt-ltb, le-ltb}
use Rattle.variables.proofs.keys.holder_of.Goals as goal

pub returns-then-line-lt-FARM_MARK : goal.returns-then-line-lt-FARM_MARK
returns-then-line-lt-FARM_MARK c = rw (lt-ltb _ _ c.if-line-lt-FARM_MARK.true)

pub returns : goal.returns
returns c = rw (le-ltb _ _ c.if-line-lt-FARM_MARK.false)
