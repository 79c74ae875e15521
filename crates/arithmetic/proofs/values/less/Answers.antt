-- `less` meets its contract: the numbers of the patterns are compared.
use Rattle.std.proofs.Common.{int_lt, ap₂, arith}
use Rattle.arithmetic.specs.Values.{less}
use Rattle.arithmetic.proofs.Signs.{cast_again}
use Rattle.arithmetic.proofs.values.less.Goals as goal

pub returns : goal.returns
unfolding less
returns c =
    let a = c.args in
    ap₂ int_lt (cast_again a.lhs _ (omega arith) c.cast_signed.ensures) (cast_again a.rhs _ (omega arith) c.cast_signed-2.ensures)
