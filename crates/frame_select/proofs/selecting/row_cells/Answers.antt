use Rattle.{
  frame_parts.proofs.Common.{Na, arith, map_more, get_or_from_slice_get},
  frame_select.specs.Across.{cell_across},
}
use Rattle.frame_select.proofs.selecting.row_cells.Goals as goal

pub loop-place-preserved : goal.loop-place-preserved
loop-place-preserved c = grind (arith, map_more (cell_across c.args.on.now c.args.row) c.as_slice-place-items.result.now c.loop-place.place-index 0 c.loop-place-test.true, get_or_from_slice_get c.column.result.cells c.args.row c.cell.result Na c.cell.ensures.cell)
