use Rattle.column_core.proofs.{cells.Common.{refl}, CellRows.{total_made}, RowsMade.{rows_written}}
use Rattle.column_operators.proofs.missing.fill_side.Goals as goal

pub returns : goal.returns
returns g c =
    total_made _ g.T.Element.cell _ _ _ _ _ _ _ (λ k. refl) (rows_written _ _ _ _ c.in_ok-rows.ensures.rows) c.in_ok-rows.ensures.count c.column.ensures
