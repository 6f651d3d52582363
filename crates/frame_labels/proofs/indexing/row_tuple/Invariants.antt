use Rattle.{
  frame_parts.proofs.Common.{◌≡◌, length, take},
  frame_labels.specs.Levels.{row_labels},
}
use Rattle.frame_labels.proofs.indexing.row_tuple.Given as goal

-- there is room for four labels, and the first ones are those of the row
abbrev pub invariant-loop-level : goal.invariant-loop-level
invariant-loop-level l = record {
  room : length l.labels ≡ 4;
  so_far : take l.level l.labels ≡ take l.level (row_labels l.on l.places l.row);
}
