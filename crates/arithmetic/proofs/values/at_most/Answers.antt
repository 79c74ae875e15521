-- `at_most` meets its contract: the numbers of the patterns are compared.
use Rattle.std.proofs.Common.{int_le, ap₂, arith}
use Rattle.arithmetic.specs.Values.{at_most}
use Rattle.arithmetic.proofs.Signs.{cast_again}
use Rattle.arithmetic.proofs.values.at_most.Goals as goal

pub returns : goal.returns
unfolding at_most
returns c =
    let a = c.args in
    ap₂ int_le (cast_again a.lhs _ (omega arith) c.cast_signed.ensures) (cast_again a.rhs _ (omega arith) c.cast_signed-2.ensures)
