use Rattle.{
  column_core.proofs.cells.Common.{◌≡◌, take, map},
  index_core.specs.pick.Rows.{rows_where},
  indexers.specs.Masks.{is_true},
}
use Rattle.indexers.proofs.masks.kept_rows.Given as goal

-- the rows so far
abbrev pub invariant-loop-row : goal.invariant-loop-row
invariant-loop-row l = l.rows ≡ rows_where (λ kept. kept) 0 (take l.row (map is_true l.mask.cells))
