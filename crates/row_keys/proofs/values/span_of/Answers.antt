use Rattle.{
  multi_index.proofs.cells.Common.{◌<◌, length, arith, get_or_from_slice_get},
  row_keys.proofs.ValueLaws.{spanned_more},
}
use Rattle.row_keys.proofs.values.span_of.Goals as goal

pub loop-row-preserved : goal.loop-row-preserved
loop-row-preserved g c =
    let lt : c.loop-row.row < length (g.R.KeyRows.keys c.args.rows.now) = omega arith in
    spanned_more _ _ _ _ _ _ _ _ lt (search get_or_from_slice_get) c.in_ok-span.ensures.low c.in_ok-span.ensures.high c.in_ok-span.ensures.label c.loop-row.invariant
