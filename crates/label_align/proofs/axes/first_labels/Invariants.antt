use Rattle.{
  meaning_align.proofs.cells.Common.{◌≡◌, map, take},
  label_align.specs.{Both.{tuples_of}, Runs.{label_of_row}},
}
use Rattle.label_align.proofs.axes.first_labels.Given as goal

-- the labels so far
abbrev pub invariant-loop-row : goal.invariant-loop-row
invariant-loop-row l = l.labels.items ≡ map (λ row. label_of_row (tuples_of l.both) row 0) (take l.row-index l.rows)
