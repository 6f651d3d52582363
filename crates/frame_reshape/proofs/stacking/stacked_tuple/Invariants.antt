use Rattle.frame_parts.proofs.Common.{◌≡◌, [], length, take, slice_index_or}
use Rattle.frame_reshape.proofs.stacking.stacked_tuple.Given as goal

-- there is room for four labels, and the first ones are those of the row
abbrev pub invariant-loop-level : goal.invariant-loop-level
invariant-loop-level l = record {
  room : length l.labels ≡ 4;
  so_far : take l.level l.labels ≡ take l.level (slice_index_or l.on.labels l.row []);
}
