-- `shifted_right` meets its contract: the number is shifted as the language does, and by 32 or more its sign alone is left.
use Rattle.std.proofs.Common.{rules, SFits, lt_of_le_of_lt, ◌^◌, int_lt, pos, ap, ◌∙◌, arith, w32, to_z, of_z}
use lib.Signed.{shr_z, mag_shr}
use Rattle.paper.proofs.Choice.{below, not_below}
use Rattle.arithmetic.specs.Values.{wrapped, truth, shifted_right}
use Rattle.arithmetic.proofs.Signs.{cast_again, cast_back}
use Rattle.arithmetic.proofs.values.shifted_right.Goals as goal

pub returns-then-by-lt32 : goal.returns-then-by-lt32
unfolding shifted_right
returns-then-by-lt32 c =
    let a = c.args in
    let v = to_z w32 (of_z w32 c.cast_signed.result) in
    let f : SFits w32 v = search rules in
    below _ _ _ _ c.if-by-lt32.true
    (c.cast_unsigned.ensures ∙ cast_back (shr_z v (2 ^ a.by)) (lt_of_le_of_lt (mag_shr v (2 ^ a.by)) f.sfits)
    ∙ ap (λ z. wrapped (shr_z z (2 ^ a.by))) (cast_again a.v _ (omega arith) c.cast_signed.ensures))

pub returns : goal.returns
unfolding shifted_right
returns c =
    not_below _ _ _ _ c.if-by-lt32.false
    (c.truth.ensures ∙ ap (λ z. truth (int_lt z (pos 0))) (cast_again c.args.v _ (omega arith) c.cast_signed-2.ensures))
