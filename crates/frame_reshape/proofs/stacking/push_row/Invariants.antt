use Rattle.{
  frame_parts.proofs.Common.{◌≡◌, [], ◌++◌, map, take, slice_index_or},
  frame_labels.specs.Labels.{column_tuple},
}
use Rattle.frame_reshape.proofs.stacking.push_row.Given as goal

-- the labels with those of the columns so far
abbrev pub invariant-loop-column : goal.invariant-loop-column
invariant-loop-column l = l.tuples ≡ l.fn.tuples ++ map (λ heading. slice_index_or l.on.labels l.row [] ++ column_tuple heading) (take l.column l.on.headings)
