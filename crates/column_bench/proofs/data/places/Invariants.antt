use Rattle.{
  column_core.proofs.cells.Common.{◌≡◌, tabulate},
  column_bench.specs.Data.{place_at},
}
use Rattle.column_bench.proofs.data.places.Given as goal

-- the rows so far
abbrev pub invariant-loop-row : goal.invariant-loop-row
invariant-loop-row l = l.made ≡ tabulate l.row place_at
