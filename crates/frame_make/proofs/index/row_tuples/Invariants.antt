use Rattle.{
  frame_parts.proofs.Common.{◌≡◌, ◌++◌, drop, List, Text, HaveLevels, labels_value},
  frame_make.specs.Index.{rows_labels},
}
use Rattle.frame_make.proofs.index.row_tuples.Given as goal

-- the labels so far, before those of the other rows
abbrev pub invariant-loop-row : goal.invariant-loop-row
invariant-loop-row l = record {
  levels : HaveLevels l.levels l.tuples;
  labels : (texts : List Text) → labels_value texts l.tuples ++ rows_labels texts (drop l.row-index l.index) ≡ rows_labels texts l.index;
}
