use Rattle.block_pool.proofs.CopyLaws.{column_shown}
use Rattle.column_core.proofs.cells.Common.{◌∙◌, ap, slice_index_or, ◌+◌, []}
use Rattle.column_core.specs.cells.Block.{strided}
use Rattle.cell_core.specs.declared.cell.Cell.TheVariants.{Na}
use Rattle.block_pool.proofs.copies.shown.Goals as goal

pub returns-clause-cells : goal.returns-clause-cells
returns-clause-cells c =
    let cells = slice_index_or c.args.block.now.columns (c.args.view.first + c.args.column) [] in
    c.strided.ensures.cells ∙ ap (strided Na cells) c.rows.ensures ∙ column_shown c.args.view cells
