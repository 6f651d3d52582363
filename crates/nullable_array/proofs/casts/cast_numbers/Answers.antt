use Rattle.{
  column_core.{proofs.cells.Common.{arith, Int64}, specs.{Lanes.{lane_row}, Columns.{number_cell}}},
  nullable_array.proofs.{ColumnAnswers.{numbers_given, text_cast, kept_cast, cast_answer, given_at}, CastLaws.{number_truth_cast}},
}
use Rattle.nullable_array.proofs.casts.cast_numbers.Goals as goal

pub returns-in_ok-copied_lane-in-Int64-clause-answer : goal.returns-in_ok-copied_lane-in-Int64-clause-answer
returns-in_ok-copied_lane-in-Int64-clause-answer c = kept_cast _ _ _ c.in-Int64.is number_cell _ _ _ c.in_ok-copied_lane-in-Int64.ensures (grind arith)

pub returns-in_ok-copied_lane-in-Int64-clause-given : goal.returns-in_ok-copied_lane-in-Int64-clause-given
returns-in_ok-copied_lane-in-Int64-clause-given c = numbers_given _ _ _ c.in_ok-copied_lane-in-Int64.ensures _

pub returns-in-Boolean-clause-given : goal.returns-in-Boolean-clause-given
returns-in-Boolean-clause-given c = given_at _ _ c.convert.ensures.given

pub returns-in-Boolean-clause-answer : goal.returns-in-Boolean-clause-answer
returns-in-Boolean-clause-answer c =
    let a = c.args.a.now in
    cast_answer _ _ _ c.in-Boolean.is Int64 _ _ _ (number_truth_cast _) a.count (lane_row a.values.now a.present.now a.start a.stride a.back) _ (c.convert.ensures.answer _)

pub returns-in_ok-text_column-in-Text-clause-answer : goal.returns-in_ok-text_column-in-Text-clause-answer
returns-in_ok-text_column-in-Text-clause-answer c = text_cast _ _ _ c.in-Text.is number_cell _ _ Int64 _ _ c.in_ok-text_column-in-Text.ensures.cells (grind arith)
