use Rattle.{
  frame_parts.proofs.Common.{◌≡◌, ◌++◌, length, map, take, All, range_with_len, Na, columns_of, IsSingle},
  frame_merge.specs.{Keys.{keys_value}, Columns.{column_on, left_column_on}},
}
use Rattle.frame_merge.proofs.columns.columns_met.Given as goal

-- the columns so far
abbrev pub invariant-loop-k : goal.invariant-loop-k
invariant-loop-k l = record {
  single : All IsSingle l.made;
  columns : columns_of l.made ≡ map (left_column_on Na l.l.columns l.r.columns (keys_value l.keys) l.pairs.left l.pairs.right) (range_with_len 0 (length l.l.columns)) ++ map (column_on Na l.r.columns l.pairs.right) (take l.k l.rights);
}
