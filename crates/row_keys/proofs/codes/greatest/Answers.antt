use Rattle.{
  multi_index.proofs.cells.Common.{◌<◌, length, arith, get_or_from_slice_get},
  row_keys.proofs.PairLaws.{greatest_more},
}
use Rattle.row_keys.proofs.codes.greatest.Goals as goal

pub loop-row-preserved : goal.loop-row-preserved
loop-row-preserved g c =
    let keys = g.R.KeyRows.keys c.args.rows.now in
    let lt : c.loop-row.row < length keys = omega arith in
    search (greatest_more, get_or_from_slice_get)
