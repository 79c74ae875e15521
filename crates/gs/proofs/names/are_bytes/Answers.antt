-- `are_bytes` meets its contract: an item of a slice of bytes fits a byte.
use native.Mathlib.Omega.{arith}
use Rattle.gs.proofs.names.are_bytes.Goals as goal

pub returns : goal.returns
returns c = λ k. omega (arith, c.type_inv.table k)
