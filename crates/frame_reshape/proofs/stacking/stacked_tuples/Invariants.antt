use Rattle.{
  frame_parts.proofs.Common.{◌≡◌, take, flat_map},
  frame_reshape.specs.Stacks.{row_with_columns},
}
use Rattle.frame_reshape.proofs.stacking.stacked_tuples.Given as goal

-- the labels of the rows so far
abbrev pub invariant-loop-row : goal.invariant-loop-row
invariant-loop-row l = l.tuples ≡ flat_map (row_with_columns l.on) (take l.row l.on.labels)
