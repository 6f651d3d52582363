use Rattle.{
  column_core.proofs.cells.Common.{◌≡◌, take},
  merge_concat.specs.Axes.{tuples_of_each, keys_below},
}
use Rattle.merge_concat.proofs.axes.keys_by_row.Given as goal

-- the keys of the axes so far
abbrev pub invariant-loop-place : goal.invariant-loop-place
invariant-loop-place l = l.labels.items ≡ keys_below (take l.place l.keys) (take l.place (tuples_of_each l.axes))
