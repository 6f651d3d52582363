use Rattle.{
  multi_index.proofs.cells.Common.{◌≡◌, map, take},
  row_keys.specs.Values.{number_in},
}
use Rattle.row_keys.proofs.values.numbers_in.Given as goal

abbrev pub invariant-loop-row : goal.invariant-loop-row
invariant-loop-row g l = l.numbers.items ≡ map (number_in l.class l.span.low) (take l.row (g.R.KeyRows.keys l.rows))
