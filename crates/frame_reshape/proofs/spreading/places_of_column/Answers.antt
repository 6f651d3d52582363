use Rattle.{
  frame_parts.proofs.Common.{◌+◌, length, slice_index_or, None},
  column_core.proofs.cells.Common.{◌*◌},
  reshape.specs.shapes.Unstacking.{place_at},
  frame_reshape.proofs.SpreadLoops.{one_more_in},
}
use Rattle.frame_reshape.proofs.spreading.places_of_column.Goals as goal

pub loop-row-preserved : goal.loop-row-preserved
loop-row-preserved c =
    let s = c.args.spread.now in
    one_more_in (λ row. place_at s.places (length s.columns) row c.args.column) c.loop-row.row _ _ _
    (λ i. slice_index_or (c.as_slice-by_row.ensures i) (c.loop-row.row * c.len-columns.ensures i + c.args.column) None) c.in_ok-push.ensures.ok c.loop-row.invariant
