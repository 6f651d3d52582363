use Rattle.{
  frame_parts.proofs.Common.{◌≡◌, map, take},
  frame_labels.specs.Labels.{column_tuple},
}
use Rattle.frame_labels.proofs.column_labels.column_tuples.Given as goal

-- the tuples of the columns so far
abbrev pub invariant-loop-place : goal.invariant-loop-place
invariant-loop-place l = l.tuples ≡ map column_tuple (take l.place l.on.headings)
