use Rattle.{
  index_core.proofs.cells.Common.{arith},
  multi_index.proofs.SeenLaws.{row_more},
}
use Rattle.multi_index.proofs.seen.labels_by_row.Goals as goal

pub loop-row-preserved : goal.loop-row-preserved
loop-row-preserved c = row_more c.args.rows.now c.loop-row.row (omega arith) c.loop-row.labels.items _ c.label.result c.label.ensures c.loop-row.invariant c.in_ok-push.ensures.items
