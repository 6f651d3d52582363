use Rattle.frame_reshape.proofs.SpreadLoops.{one_more_first}
use Rattle.frame_reshape.proofs.spreading.spread_labels.Goals as goal

pub loop-column-preserved : goal.loop-column-preserved
loop-column-preserved c = one_more_first c.args.spread.now.columns c.loop-column.column _ _ _ _ c.at.ensures c.at-in-loop-column.ensures c.in_ok-push.ensures.items c.loop-column.invariant
