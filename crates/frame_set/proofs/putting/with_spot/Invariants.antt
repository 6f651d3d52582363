use Rattle.{
  frame_parts.proofs.Common.{◌≡◌, length, take, Frame},
  frame_set.specs.Assigned.{table_column, with_places},
}
use Rattle.frame_set.proofs.putting.with_spot.Given as goal

-- the frame with the column in the places so far
abbrev pub invariant-loop-place : goal.invariant-loop-place
invariant-loop-place l = record {
  made : l.made ≡ with_places l.fn.table (take l.place-index l.place-items) l.label (table_column l.column);
  frame : l.made.shape ≡ Frame;
  rows : l.made.labels ≡ l.fn.table.labels;
  count : length l.made.columns ≡ length l.fn.table.columns;
}
