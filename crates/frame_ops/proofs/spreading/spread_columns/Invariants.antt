use Rattle.{
  frame_parts.proofs.Common.{◌≡◌, take, map, All, block_column, IsSingle},
  frame_ops.specs.Pairs.{repeated},
}
use Rattle.frame_ops.proofs.spreading.spread_columns.Given as goal

abbrev pub invariant-loop-place : goal.invariant-loop-place
invariant-loop-place l =
    record {
      columns : map block_column l.made ≡ map (repeated l.fn.cells.kind l.rows) (take l.place l.fn.cells.cells);
      single : All IsSingle l.made;
    }
