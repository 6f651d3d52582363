use Rattle.{
  column_core.proofs.cells.Common.{◌∙◌, ◌<◌, sym, map, length, arith, length-map},
  index_core.proofs.pick.RowLaws.{rows_more_yes, rows_more_no},
  indexers.{specs.Masks.{is_true}, proofs.{MaskLaws.{cell_read}, masks.kept_rows.Goals.{then-is_true+in_ok-push, else-is_true}}},
}
use Rattle.indexers.proofs.masks.kept_rows.Goals as goal

pub loop-row-preserved : goal.loop-row-preserved
loop-row-preserved c =
    let cells = c.args.mask.cells in
    let lt : c.loop-row.row < length (map is_true cells) = omega (arith, length-map cells is_true) in
    let read = cell_read cells _ c.cell.result c.cell.ensures.cell ∙ sym c.is_true.ensures in
    elim c.if-is_true.branch [
      | then-is_true+in_ok-push w ↦ rows_more_yes _ _ _ _ _ _ lt c.loop-row.invariant (read ∙ w.if-is_true.true) (w.rows-is ∙ w.in_ok-push.ensures.ok)
      | else-is_true w ↦ grind (arith, rows_more_no)
    ]
