use Rattle.column_core.{proofs.{cells.Common.{refl, ◌+◌, tabulate}, CellRows.{total_made}, RowsMade.{rows_written}}, specs.Columns.{number_cell}}
use Rattle.rolling.proofs.columns.answered.Goals as goal

pub returns : goal.returns
returns g c =
    total_made _ number_cell _ _ (λ k. g.W.Answering.answer_of c.args.window.now (tabulate (k + 1) (g.A.Source.row_of c.args.a.now))) _ _ _ _ (λ k. refl) (rows_written _ _ _ _ c.in_ok-rows.ensures.rows) c.in_ok-rows.ensures.count c.column.ensures
