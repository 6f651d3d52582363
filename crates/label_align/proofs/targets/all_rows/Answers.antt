use Rattle.meaning_align.proofs.cells.Common.{Some, arith, map-range_with_len_more}
use Rattle.label_align.proofs.targets.all_rows.Goals as goal

pub loop-row-preserved : goal.loop-row-preserved
loop-row-preserved c = cc (c.in_ok-push.ensures.items, map-range_with_len_more Some 0 c.loop-row.row c.loop-row.row (omega arith))
