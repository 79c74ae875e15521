-- `blocks_without` meets its contract: a block that is passed has no line with the key.
use mathlib.Core.List.{[]}
use mathlib.Core.Path.{refl, ap}
use native.Mathlib.Omega.{arith}
use lib.ListN.{get_or}
use Rattle.variables.proofs.BlockLaws.{without_block}
use Rattle.variables.proofs.blocks.blocks_without.Goals as goal

pub loop-number-preserved : goal.loop-number-preserved
loop-number-preserved c =
    let l = c.loop-number in
    without_block c.args.key c.args.keys.now _ l.number _ refl (omega (arith, c.as_chunks.ensures.front_len)) l.invariant
    (ap (λ bs. get_or bs l.number []) c.as_chunks.ensures.front) (c.hits.ensures c.if-hits-ne0.false)
