use Rattle.{
  frame_parts.proofs.Common.{◌≡◌, ◌++◌, drop, Na},
  frame_merge.specs.Columns.{key_cells},
}
use Rattle.frame_merge.proofs.columns.key_column.Given as goal

-- the cells so far, before those of the other rows
abbrev pub invariant-loop-row : goal.invariant-loop-row
invariant-loop-row l = record {
  kind : l.column.kind ≡ l.left.kind;
  cells : l.column.cells ++ key_cells Na l.left.cells l.right.cells (drop l.row l.pairs.left) (drop l.row l.pairs.right) ≡ key_cells Na l.left.cells l.right.cells l.pairs.left l.pairs.right;
}
