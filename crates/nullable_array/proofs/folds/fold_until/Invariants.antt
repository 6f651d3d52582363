use Rattle.{
  column_core.proofs.cells.Common.{◌≡◌},
  nullable_array.specs.Folds.{folded},
}
use Rattle.nullable_array.proofs.folds.fold_until.Given as goal

-- the rows so far change nothing
abbrev pub invariant-loop-row : goal.invariant-loop-row
invariant-loop-row g l = folded (g.F.Fold.step_of l.fold) l.start l.row (g.A.Source.row_of l.a) ≡ l.start
