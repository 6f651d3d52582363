use Rattle.{
  column_core.proofs.cells.Common.{◌≡◌, None, unwrap_or},
  nullable_array.specs.Folds.{folded, greatest_step},
}
use Rattle.nullable_array.proofs.extremes.last_or.Given as goal

-- the last of the rows so far, or the blank
abbrev pub invariant-loop-row : goal.invariant-loop-row
invariant-loop-row g l = l.best ≡ unwrap_or (folded (greatest_step (g.K.Order.cmp l.order)) None l.row (g.A.Source.row_of l.a)) l.blank
