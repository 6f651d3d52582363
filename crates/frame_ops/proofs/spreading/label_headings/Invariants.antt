use Rattle.frame_parts.proofs.Common.{◌≡◌, map, take, tuple_heading}
use Rattle.frame_ops.proofs.spreading.label_headings.Given as goal

-- the headings of the rows so far
abbrev pub invariant-loop-row : goal.invariant-loop-row
invariant-loop-row l = l.made.items ≡ map tuple_heading (take l.row l.series.labels)
