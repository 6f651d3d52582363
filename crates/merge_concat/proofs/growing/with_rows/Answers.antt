use Rattle.{
  column_core.proofs.cells.Common.{arith},
  merge_concat.{specs.Growing.{cells_of_rows}, proofs.BelowLaws.{one_row_more}},
}
use Rattle.merge_concat.proofs.growing.with_rows.Goals as goal

pub loop-row-preserved : goal.loop-row-preserved
loop-row-preserved g c =
    one_row_more g.T.Element.cell g.T.Element.kind (cells_of_rows g.T.Element.cell c.args.rows) _ _ _ _ _ _
    (grind arith) c.loop-row.invariant
