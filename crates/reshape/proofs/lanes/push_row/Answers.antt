use Rattle.{
  column_core.proofs.cells.Common.{arith},
  merge_concat.specs.Growing.{cells_of_rows},
  reshape.proofs.LaneLaws.{value_more},
}
use Rattle.reshape.proofs.lanes.push_row.Goals as goal

pub loop-lane-preserved : goal.loop-lane-preserved
loop-lane-preserved g c =
    value_more g.T.Element.cell g.T.Element.kind (cells_of_rows g.T.Element.cell c.args.made.now) _ _ _ _ c.args.lanes.now c.loop-lane.lane-index c.args.row c.lane-item.result c.loop-lane-test.true c.lane-item.is
    (grind arith) (grind arith) c.loop-lane.invariant
