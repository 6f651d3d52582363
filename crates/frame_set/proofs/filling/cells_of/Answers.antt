use Rattle.{
  frame_parts.proofs.Common.{◌<◌, length, arith},
  frame_set.proofs.FillLaws.{cell_more},
}
use Rattle.frame_set.proofs.filling.cells_of.Goals as goal

pub loop-row-preserved : goal.loop-row-preserved
loop-row-preserved c =
    let lt : c.loop-row.row < length c.args.column.cells = omega arith in
    cell_more _ _ _ _ _ lt c.cell.ensures.cell c.loop-row.invariant c.in_ok-push.ensures.ok
