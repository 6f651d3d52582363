use Rattle.{
  column_core.proofs.cells.Common.{arith, get_or_read},
  merge_concat.proofs.JoinLaws.{counts_more},
}
use Rattle.merge_concat.proofs.repeats.counted_rows.Goals as goal

pub loop-row-preserved : goal.loop-row-preserved
loop-row-preserved c = counts_more _ _ _ _ _ _ (omega arith) c.code-code.ensures.code c.code-code.ensures.below (grind (arith, get_or_read)) c.loop-row.invariant
