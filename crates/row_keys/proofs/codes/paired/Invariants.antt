use Rattle.{
  multi_index.proofs.cells.Common.{◌≡◌, map, range_with_len},
  row_keys.proofs.PairLaws.{pair_number},
}
use Rattle.row_keys.proofs.codes.paired.Given as goal

abbrev pub invariant-loop-row : goal.invariant-loop-row
invariant-loop-row g l = l.numbers.items ≡ map (pair_number l.labels.numbers.items (g.R.KeyRows.keys l.rows) l.room.scale) (range_with_len 0 l.row)
