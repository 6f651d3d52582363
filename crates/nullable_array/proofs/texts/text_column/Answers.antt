use Rattle.{
  column_core.proofs.cells.Common.{arith},
  nullable_array.proofs.TextRows.{text_made},
}
use Rattle.nullable_array.proofs.texts.text_column.Goals as goal

pub returns-clause-cells : goal.returns-clause-cells
returns-clause-cells g c = (text_made _ _ _ _ _ _ _ _ _ _ c.in_ok-fill_texts.ensures.written c.column.ensures (grind arith) (grind arith) (grind arith)).0

pub returns-clause-given : goal.returns-clause-given
returns-clause-given g c = (text_made _ _ _ _ _ _ _ _ _ _ c.in_ok-fill_texts.ensures.written c.column.ensures (grind arith) (grind arith) (grind arith)).1
