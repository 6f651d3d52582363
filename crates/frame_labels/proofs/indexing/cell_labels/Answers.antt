use Rattle.{
  frame_parts.proofs.Common.{arith},
  frame_labels.proofs.IndexingLaws.{one_more_label},
}
use Rattle.frame_labels.proofs.indexing.cell_labels.Goals as goal

pub loop-row-preserved : goal.loop-row-preserved
loop-row-preserved c =
    one_more_label _ _ _ _ _ _ (omega arith) c.cell.ensures.cell c.from.ensures.0 c.loop-row.invariant c.in_ok-push.ensures.items
