use Rattle.{
  column_core.proofs.cells.Common.{◌≡◌, ◌++◌, take, drop, tabulate, Na},
  column_core.specs.cells.Block.{filled_with},
  block_pool.specs.Placed.{shown_column},
}
use Rattle.block_pool.proofs.copies.copied_columns.Given as goal

-- the columns so far, and then blank ones
abbrev pub invariant-loop-column : goal.invariant-loop-column
invariant-loop-column l =
    l.copy ≡ record {
      kind = l.block.kind;
      rows = l.view.count;
      columns = take l.column (tabulate l.view.columns (shown_column l.block l.view)) ++ drop l.column (filled_with Na l.view.columns l.view.count);
    }
