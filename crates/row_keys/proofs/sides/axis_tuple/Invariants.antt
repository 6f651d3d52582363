use Rattle.multi_index.proofs.cells.Common.{◌≡◌, [], length, take, slice_index_or}
use Rattle.row_keys.proofs.sides.axis_tuple.Given as goal

-- there is room for four labels, and the first ones are those of the tuple
abbrev pub invariant-loop-level : goal.invariant-loop-level
invariant-loop-level l = record {
  room : length l.labels ≡ 4;
  so_far : take l.level l.labels ≡ take l.level (slice_index_or l.axis.tuples l.row []);
}
