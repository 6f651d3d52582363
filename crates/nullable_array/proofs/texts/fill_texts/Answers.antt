use Rattle.{
  column_core.proofs.cells.Common.{arith},
  nullable_array.proofs.TextRows.{longer_trans, text_written},
}
use Rattle.nullable_array.proofs.texts.fill_texts.Goals as goal

pub loop-row-preserved : goal.loop-row-preserved
loop-row-preserved g c = record {
  longer = search longer_trans;
  written = rw (c.unwrap_or.ensures, c.is_some.ensures) (text_written _ _ _ c.loop-row.row _ _ _ _ c.text_row.ensures.keeps c.loop-row.invariant.written (omega arith) (omega arith) (grind arith));
}
