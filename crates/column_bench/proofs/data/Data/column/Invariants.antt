use Rattle.{
  column_core.proofs.cells.Common.{◌≡◌},
  column_bench.specs.Data.{data_column},
}
use Rattle.column_bench.proofs.data.Data.column.Given as goal

-- the rows so far
abbrev pub invariant-loop-row : goal.invariant-loop-row
invariant-loop-row l = l.made ≡ data_column l.self l.row
