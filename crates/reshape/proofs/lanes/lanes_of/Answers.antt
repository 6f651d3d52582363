use Rattle.reshape.proofs.LaneLaws.{lane_more}
use Rattle.reshape.proofs.lanes.lanes_of.Goals as goal

pub loop-column-preserved : goal.loop-column-preserved
loop-column-preserved g c =
    lane_more g.T.Element.cell c.args.columns.now c.loop-column.column-index c.column-item.result _ _ c.lane.result c.loop-column-test.true c.column-item.is c.lane.ensures c.loop-column.invariant c.in_ok-push.ensures.items
