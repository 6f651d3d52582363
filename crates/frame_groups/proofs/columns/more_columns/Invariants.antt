use Rattle.{
  frame_parts.proofs.Common.{◌≡◌, ◌++◌, map, take, table_value, blocks_value},
  frame_groups.specs.Columns.{made_at, rows_made, AreBlocks},
}
use Rattle.frame_groups.proofs.columns.more_columns.Given as goal

-- the columns so far
abbrev pub invariant-loop-k : goal.invariant-loop-k
invariant-loop-k l = record {
  blocks : AreBlocks l.dict (rows_made l.call l.groups) l.made;
  columns : blocks_value l.dict l.made ≡ blocks_value l.dict l.fn.blocks ++ map (made_at l.call l.groups (table_value l.dict l.on)) (take l.k l.places);
}
