use Rattle.{
  frame_parts.proofs.Common.{◌≡◌, map, take, All, block_column, IsSingle},
  frame_set.specs.Assigned.{missing_cells},
}
use Rattle.frame_set.proofs.columns.missing_columns.Given as goal

-- the columns so far
abbrev pub invariant-loop-place : goal.invariant-loop-place
invariant-loop-place l = record {
  columns : map block_column l.made ≡ map (missing_cells l.rows) (take l.place l.on.columns);
  single : All IsSingle l.made;
}
