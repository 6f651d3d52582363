use Rattle.frame_asof.proofs.MergeLaws.{one_more_row}
use Rattle.frame_asof.proofs.merging.pairs_of.Goals as goal

pub loop-row-preserved : goal.loop-row-preserved
loop-row-preserved c = one_more_row _ _ _ c.in_ok-push.ensures.ok c.loop-row.invariant
