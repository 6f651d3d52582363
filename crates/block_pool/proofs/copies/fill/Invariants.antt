use Rattle.{
  column_core.proofs.cells.Common.{◌≡◌, ◌++◌, [], take, drop, slice_index_or, slice_set},
}
use Rattle.block_pool.proofs.copies.fill.Given as goal

-- the cells so far, and then those that were there
abbrev pub invariant-loop-row : goal.invariant-loop-row
invariant-loop-row l =
    l.block ≡ record {
      kind = l.fn.block.kind;
      rows = l.fn.block.rows;
      columns = slice_set l.fn.block.columns l.column (take l.row l.cells.cells ++ drop l.row (slice_index_or l.fn.block.columns l.column []));
    }
