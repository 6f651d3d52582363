use Rattle.{column_core.proofs.cells.Common.{◌∙◌, ap, length, ◌∷◌, []}, column_core.specs.{Columns.{CellColumn}}, cell_core.specs.declared.cell.Kind.{Kind}, block_pool.proofs.CopyLaws.{one_column}}
use Rattle.block_pool.proofs.copies.copied.Goals as goal

pub returns-then-view-eq1 : goal.returns-then-view-eq1
returns-then-view-eq1 c =
    let cells = c.shown.result.cells in
    c.into_block.ensures
    ∙ ap (λ (col : CellColumn). record { kind = col.kind; rows = length col.cells; columns = col.cells ∷ [] }) c.in_ok-to_column.ensures
    ∙ ap (λ (k : Kind). record { kind = k; rows = length cells; columns = cells ∷ [] }) c.shown.ensures.kind
    ∙ one_column c.args.block.now c.args.view cells c.if-view-eq1.true c.shown.ensures.cells
