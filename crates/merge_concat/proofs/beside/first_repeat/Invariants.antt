use Rattle.{
  column_core.proofs.cells.Common.{◌≡◌, take, None},
  meaning_join.specs.Concat.{repeated_on_any},
  row_keys.specs.Keys.{same_tuple},
  merge_concat.specs.Axes.{tuples_of_each},
}
use Rattle.merge_concat.proofs.beside.first_repeat.Given as goal

-- no tuple repeats on the axes so far
abbrev pub invariant-loop-axis : goal.invariant-loop-axis
invariant-loop-axis l = repeated_on_any same_tuple (take l.axis-index (tuples_of_each l.axes)) ≡ None
