use Rattle.{
  frame_parts.proofs.Common.{◌≡◌, take},
  multi_index.specs.pick.Rows.{rows_where},
  frame_labels.specs.Section.{has_number},
}
use Rattle.frame_labels.proofs.cross_section.rows_with_label.Given as goal

-- the rows so far
abbrev pub invariant-loop-row : goal.invariant-loop-row
invariant-loop-row l = l.rows ≡ rows_where (has_number l.level l.label) 0 (take l.row l.axis.tuples)
