use Rattle.{
  column_core.proofs.cells.Common.{◌≡◌},
  column_bench.specs.Checks.{check_below},
}
use Rattle.column_bench.proofs.checks.check.Given as goal

-- the rows so far
abbrev pub invariant-loop-row : goal.invariant-loop-row
invariant-loop-row l = l.so_far ≡ check_below l.row l.cells.cells
