use Rattle.column_core.{proofs.{cells.Common.{refl}, CellRows.{total_made}, RowsMade.{rows_written}}, specs.Columns.{truth_cell}}
use Rattle.column_operators.proofs.missing.mark_side.Goals as goal

pub returns : goal.returns
returns g c =
    total_made _ truth_cell _ _ _ _ _ _ _ (λ k. refl) (rows_written _ _ _ _ c.in_ok-rows.ensures.rows) c.in_ok-rows.ensures.count c.column.ensures
