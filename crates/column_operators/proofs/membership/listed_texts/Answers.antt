use Rattle.{
  column_core.{proofs.cells.Common.{arith, Some, list_any}, specs.Columns.{text_cell}},
  column_operators.{specs.Marks.{listed_value, same_number}, proofs.MarkLaws.{if_same_rows, text_listed}},
}
use Rattle.cell_core.specs.contracts.cell.TextIdPartialEq.TheImpl as id
use Rattle.column_operators.proofs.membership.listed_texts.Goals as goal

pub returns : goal.returns
returns c =
    if_same_rows _ _ _ (λ x. Some (listed_value (λ p q. id.eq-value.it p q) c.contains.result c.as_slice-2.result.now x)) (λ x. Some (list_any (same_number (text_cell x)) c.args.values.now.keys))
    (grind (arith, text_listed)) c.map_lane-2.ensures
