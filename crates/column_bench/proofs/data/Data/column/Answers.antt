use Rattle.{
  column_core.{proofs.cells.Common.{[], ◌∷◌, ◌++◌, ap, sym, ◌∙◌, List, Cell, tabulate}, specs.Columns.{CellColumn}},
  column_bench.{specs.Data.{data_kind, data_cell}, proofs.DataLaws.{tabulate_more}},
}
use Rattle.column_bench.proofs.data.Data.column.Goals as goal

pub loop-row-preserved : goal.loop-row-preserved
loop-row-preserved c =
    let kind = data_kind c.args.self in
    let at = data_cell c.args.self in
    c.in_ok-push.ensures.ok
    ∙ ap (λ (col : CellColumn). record { kind = col.kind; cells = col.cells ++ c.cell.result ∷ [] }) c.loop-row.invariant
    ∙ ap (λ (x : Cell). record { kind = kind; cells = tabulate c.loop-row.row at ++ x ∷ [] }) c.cell.ensures.cell
    ∙ ap (λ (l : List Cell). record { kind = kind; cells = l }) (sym (tabulate_more at c.loop-row.row))
