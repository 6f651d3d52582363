use Rattle.{
  frame_parts.proofs.Common.{refl, []},
  frame_ops.proofs.MeetingLaws.{beside_scalar, across_scalar},
}
use Rattle.frame_ops.proofs.columns.column_met.Goals as goal

pub returns-in-Scalar-clause-answer : goal.returns-in-Scalar-clause-answer
returns-in-Scalar-clause-answer c = rw c.in-Scalar.is (beside_scalar _ _ _ _ _ _ _ _ _ c.column-column.ensures.column refl c.with_scalar.ensures.answer)

pub returns-in-Across-clause-answer : goal.returns-in-Across-clause-answer
returns-in-Across-clause-answer c = rw c.in-Across.is (across_scalar _ _ _ _ _ _ c.in-Across.series _ _ _ _ c.column-column.ensures.column c.column-in-Across.ensures.column c.cell-cell.ensures.cell (c.cell-cell.ensures.held [])
    (rw c.in-Across.is at c.requires.kinds) c.with_scalar-in-Across.ensures.answer)
