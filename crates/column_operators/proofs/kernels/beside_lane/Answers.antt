use Rattle.{
  column_core.{proofs.{cells.Common.{subst, datum}, CellRows.{same_column}}, specs.Columns.{CellColumn, column_value}},
  nullable_array.specs.Answers.{Answers},
  column_operators.specs.Tasks.{scalar_task},
}
use Rattle.column_operators.proofs.kernels.beside_lane.Goals as goal

pub returns-in-Some-clause-answer : goal.returns-in-Some-clause-answer
returns-in-Some-clause-answer g c = λ texts.
    subst (λ (col : CellColumn). Answers texts c.beside_side.result (scalar_task c.args.task (column_value texts col) (datum texts (g.T.Element.cell c.args.scalar)) c.args.left))
    (same_column _ g.T.Element.cell _ _ _ _ c.in-Some.ensures.count c.in-Some.ensures.rows) (c.beside_side.ensures.answer texts)
