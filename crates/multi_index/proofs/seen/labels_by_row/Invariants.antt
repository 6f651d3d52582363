use Rattle.index_core.proofs.cells.Common.{◌≡◌, take}
use Rattle.multi_index.proofs.seen.labels_by_row.Given as goal

-- the labels so far
abbrev pub invariant-loop-row : goal.invariant-loop-row
invariant-loop-row l = l.labels.items ≡ take l.row l.rows
