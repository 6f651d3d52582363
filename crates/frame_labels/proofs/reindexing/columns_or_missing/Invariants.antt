use Rattle.{
  frame_parts.proofs.Common.{◌≡◌, take, map, All, Na, block_column, IsSingle},
  meaning_method.specs.Reindex.{column_or_missing},
}
use Rattle.frame_labels.proofs.reindexing.columns_or_missing.Given as goal

-- the columns so far
abbrev pub invariant-loop-k : goal.invariant-loop-k
invariant-loop-k l = record {
  columns : map block_column l.made ≡ map (column_or_missing Na l.on) (take l.k l.places);
  single : All IsSingle l.made;
}
