use Rattle.{
  frame_parts.proofs.Common.{◌≡◌, map, All, range_with_len, Na, columns_of, IsSingle},
  frame_merge.specs.{Keys.{keys_value}, Columns.{left_column_on}},
}
use Rattle.frame_merge.proofs.columns.left_columns.Given as goal

-- the columns so far
abbrev pub invariant-loop-place : goal.invariant-loop-place
invariant-loop-place l = record {
  single : All IsSingle l.made;
  columns : columns_of l.made ≡ map (left_column_on Na l.l.columns l.r.columns (keys_value l.keys) l.pairs.left l.pairs.right) (range_with_len 0 l.place);
}
