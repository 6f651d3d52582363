use Rattle.{
  meaning_json.proofs.cells.Common.{arith},
  json_frames.proofs.ColumnsLaws.{default_more, small_number},
}
use Rattle.json_frames.proofs.columns.default_rows.Goals as goal

pub loop-row-preserved : goal.loop-row-preserved
loop-row-preserved c = λ texts. default_more texts _ _ _ _ c.loop-row.row (c.loop-row.invariant texts) c.in_ok-push.ensures.ok c.of.ensures (small_number _ (omega (arith, c.requires, c.loop-row-test.true)))
