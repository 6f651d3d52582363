use Rattle.{
  column_core.proofs.cells.Common.{◌≡◌},
  nullable_array.specs.Folds.{folded},
}
use Rattle.nullable_array.proofs.folds.fold_rows.Given as goal

-- what the rows so far come to
abbrev pub invariant-loop-row : goal.invariant-loop-row
invariant-loop-row g l = l.so_far ≡ folded (g.F.Fold.step_of l.fold) l.fn.start l.row (g.A.Source.row_of l.a)
