use Rattle.{
  column_core.proofs.cells.Common.{◌≡◌, []},
  indexmap.specs.IndexSet.{insert_key},
  nullable_array.specs.Folds.{folded},
}
use Rattle.nullable_array.proofs.distinct_cells.few_values.Given as goal

-- the different values of the rows so far
abbrev pub invariant-loop-row : goal.invariant-loop-row
invariant-loop-row g l = l.seen.keys ≡ folded (insert_key g.T.PartialEq.eq) [] l.row (g.A.Source.row_of l.a)
