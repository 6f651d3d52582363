use Rattle.{
  column_core.proofs.cells.Common.{◌≡◌, []},
  nullable_array.specs.{Distincts.{then_value}, Folds.{folded}},
}
use Rattle.nullable_array.proofs.distinct_cells.present_numbers.Given as goal

-- the numbers of the rows so far
abbrev pub invariant-loop-row : goal.invariant-loop-row
invariant-loop-row g l = l.numbers.items ≡ folded then_value [] l.row (g.A.Source.row_of l.a)
