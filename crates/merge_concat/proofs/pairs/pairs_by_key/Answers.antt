use Rattle.{
  column_core.proofs.cells.Common.{arith},
  merge_concat.proofs.JoinLaws.{outer_more, pairs_more},
}
use Rattle.merge_concat.proofs.pairs.pairs_by_key.Goals as goal

pub loop-code-preserved : goal.loop-code-preserved
loop-code-preserved c = rw outer_more (pairs_more _ _ _ _ c.loop-code.invariant (grind arith))
