use Rattle.{
  column_core.proofs.cells.Common.{◌∙◌, ap, arith, List, Cell, with_cell, slice_index_or, []},
  column_core.specs.Blocks.{CellBlock},
  block_pool.proofs.CopyLaws.{cell_filled},
}
use Rattle.block_pool.proofs.copies.fill.Goals as goal

pub loop-row-preserved : goal.loop-row-preserved
loop-row-preserved c =
    let b = c.args.block.now in
    let k = c.args.column in
    let row = c.loop-row.row in
    c.put.ensures
    ∙ ap (λ (old : CellBlock). record { kind = old.kind; rows = old.rows; columns = with_cell old.columns k row c.cell.result }) c.loop-row.invariant
    ∙ ap (λ (columns : List (List Cell)). record { kind = b.kind; rows = b.rows; columns = columns })
    (cell_filled b.columns k row c.args.cells.cells (slice_index_or b.columns k []) c.cell.result c.requires.column c.cell.ensures.cell (omega (arith, c.requires.even, c.requires.rows)))
