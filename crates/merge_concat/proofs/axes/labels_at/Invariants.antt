use Rattle.{
  column_core.proofs.cells.Common.{◌≡◌, take, map},
  row_keys.specs.Keys.{label_in},
  merge_concat.specs.Axes.{tuples_in},
}
use Rattle.merge_concat.proofs.axes.labels_at.Given as goal

-- the labels of the axes so far
abbrev pub invariant-loop-axis : goal.invariant-loop-axis
invariant-loop-axis l = l.labels.items ≡ map (label_in l.level) (tuples_in (take l.axis-index l.axes))
