use Rattle.frame_labels.proofs.IndexingLaws.{one_more_row}
use Rattle.frame_labels.proofs.indexing.row_tuples.Goals as goal

pub loop-row-preserved : goal.loop-row-preserved
loop-row-preserved c = one_more_row c.args.on.now _ _ _ _ _ c.row_tuple.ensures c.in_ok-push.ensures.ok c.loop-row.invariant
