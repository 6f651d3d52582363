use Rattle.{
  column_core.proofs.CellRows.{same_column},
  column_operators.proofs.TaskAnswers.{two_columns},
}
use Rattle.column_operators.proofs.kernels.on_lanes.Goals as goal

pub returns-in-Some-Some-clause-answer : goal.returns-in-Some-Some-clause-answer
returns-in-Some-Some-clause-answer g c = λ texts.
    two_columns _ _ _ _ _ _ _ (same_column _ g.T.Element.cell _ _ _ _ c.in-Some-Some.ensures.count c.in-Some-Some.ensures.rows)
    (same_column _ g.T.Element.cell _ _ _ _ c.in-Some-Some.ensures'.count c.in-Some-Some.ensures'.rows) (c.on_sides.ensures.answer texts)
