use Rattle.{
  column_core.{proofs.{cells.Common.{arith, Boolean}, ColumnLaws.{given-plain}}, specs.Columns.{truth_cell, truth_given}},
  nullable_array.proofs.ColumnAnswers.{text_cast, kept_cast, given_at},
}
use Rattle.nullable_array.proofs.casts.cast_truths.Goals as goal

pub returns-in_ok-copied_lane-in-Boolean-clause-answer : goal.returns-in_ok-copied_lane-in-Boolean-clause-answer
returns-in_ok-copied_lane-in-Boolean-clause-answer c = kept_cast _ _ _ c.in-Boolean.is truth_cell _ _ _ c.in_ok-copied_lane-in-Boolean.ensures (grind arith)

pub returns-in_ok-copied_lane-in-Boolean-clause-given : goal.returns-in_ok-copied_lane-in-Boolean-clause-given
returns-in_ok-copied_lane-in-Boolean-clause-given c = given-plain _ _ _ _ _ _ (truth_given _) c.in_ok-copied_lane-in-Boolean.ensures

pub returns-in-Int64-clause-given : goal.returns-in-Int64-clause-given
returns-in-Int64-clause-given c = given_at _ _ c.numbers_of_truths.ensures.given

pub returns-in_ok-text_column-in-Text-clause-answer : goal.returns-in_ok-text_column-in-Text-clause-answer
returns-in_ok-text_column-in-Text-clause-answer c = text_cast _ _ _ c.in-Text.is truth_cell _ _ Boolean _ _ c.in_ok-text_column-in-Text.ensures.cells (grind arith)
