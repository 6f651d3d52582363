use Rattle.{
  column_core.proofs.{cells.Common.{refl}, CellRows.{total_made}, RowsMade.{rows_written}},
  nullable_array.specs.Folds.{running_row},
}
use Rattle.nullable_array.proofs.cumulations.run.Goals as goal

pub returns : goal.returns
returns g c =
    total_made _ g.U.Element.cell _ _ (running_row (g.F.Fold.step_of _) (g.A.Source.row_of _)) _ _ _ _ (λ k. refl) (rows_written _ _ _ _ c.in_ok-rows.ensures.rows) c.in_ok-rows.ensures.count c.column.ensures
