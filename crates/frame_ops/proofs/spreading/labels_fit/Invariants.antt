use Rattle.{
  frame_parts.proofs.Common.{◌≡◌, drop, map, column_at, labels_fit},
  row_keys.specs.Keys.{same_tuple},
  frame_ops.specs.Widening.{heading_tuple},
}
use Rattle.frame_ops.proofs.spreading.labels_fit.Given as goal

-- the columns so far fit
abbrev pub invariant-loop-place : goal.invariant-loop-place
invariant-loop-place l =
    labels_fit same_tuple (column_at l.series.columns 0).kind l.series.labels (drop l.place (map heading_tuple l.frame.headings)) (drop l.place l.frame.columns)
    ≡ labels_fit same_tuple (column_at l.series.columns 0).kind l.series.labels (map heading_tuple l.frame.headings) l.frame.columns
