use Rattle.frame_parts.proofs.Common.{◌≡◌, map, take, label_of}
use Rattle.frame_labels.proofs.indexing.cell_labels.Given as goal

-- the labels so far
abbrev pub invariant-loop-row : goal.invariant-loop-row
invariant-loop-row l = l.labels.items ≡ map label_of (take l.row l.column.cells)
