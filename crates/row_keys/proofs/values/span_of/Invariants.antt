use Rattle.{
  multi_index.proofs.cells.Common.{take, All},
  row_keys.specs.Values.{IsSpanned},
}
use Rattle.row_keys.proofs.values.span_of.Given as goal

abbrev pub invariant-loop-row : goal.invariant-loop-row
invariant-loop-row g l = All (IsSpanned l.class l.span.low l.span.high) (take l.row (g.R.KeyRows.keys l.rows))
