-- `count_of` meets its contract: an index that is too long has no entry that counts.
use native.Mathlib.Omega.{arith}
use borrow.Author.Tests.{lt-ltb, le-ltb}
use Rattle.indexes.proofs.count_of.Goals as goal

pub returns-then-index : goal.returns-then-index
returns-then-index c = (rw (lt-ltb _ _ c.if-index.true), omega arith)

pub returns : goal.returns
returns c = (rw (le-ltb _ _ c.if-index.false), omega arith)
