use Rattle.{
  column_core.proofs.cells.Common.{arith},
  text_methods.proofs.RowLaws.{longer_trans, row_more},
}
use Rattle.text_methods.proofs.answers.fill_rows.Goals as goal

pub loop-row-preserved : goal.loop-row-preserved
loop-row-preserved g c =
    let early = c.args.dict.now in
    let known = c.loop-row.invariant in
    record {
      longer = longer_trans _ _ _ known.longer c.row_made.ensures.keeps;
      memo = c.row_made.ensures.memo early known.memo;
      rows = row_more g.U.Element.cell (g.W.Work.method c.args.work.now) early c.loop-row.dict c.row_made.new.dict (g.A.Source.row_of c.args.a.now) c.loop-row.row c.get.result c.loop-row.values c.loop-row.present c.in_ok-value.value c.blank.result c.unwrap_or.result c.is_some.result c.row_made.ensures.keeps known.rows (omega arith) (omega arith)
          c.get.ensures c.unwrap_or.ensures c.is_some.ensures (c.in_ok-value.ensures.row early known.memo);
    }
