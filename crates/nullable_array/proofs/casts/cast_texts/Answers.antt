use Rattle.{
  column_core.{proofs.cells.Common.{arith}, specs.{Lanes.{lane_row}, Columns.{text_cell}}},
  cell_core.specs.declared.cell.Kind.TheVariants.{Text as string},
  nullable_array.proofs.{ColumnAnswers.{kept_cast, cast_answer, given_at}, CastLaws.{text_number_cast, text_truth_cast}},
}
use Rattle.nullable_array.proofs.casts.cast_texts.Goals as goal

pub returns-in_ok-copied_lane-in-Text-clause-answer : goal.returns-in_ok-copied_lane-in-Text-clause-answer
returns-in_ok-copied_lane-in-Text-clause-answer c = kept_cast _ _ _ c.in-Text.is text_cell _ _ _ c.in_ok-copied_lane-in-Text.ensures (grind arith)

pub returns-in-Int64-clause-given : goal.returns-in-Int64-clause-given
returns-in-Int64-clause-given c = given_at _ _ c.convert.ensures.given

pub returns-in-Int64-clause-answer : goal.returns-in-Int64-clause-answer
returns-in-Int64-clause-answer c =
    let a = c.args.a.now in
    cast_answer _ _ _ c.in-Int64.is string _ _ _ (text_number_cast _) a.count (lane_row a.values.now a.present.now a.start a.stride a.back) _ (c.convert.ensures.answer _)

pub returns-in-Boolean-clause-given : goal.returns-in-Boolean-clause-given
returns-in-Boolean-clause-given c = given_at _ _ c.convert-in-Boolean.ensures.given

pub returns-in-Boolean-clause-answer : goal.returns-in-Boolean-clause-answer
returns-in-Boolean-clause-answer c =
    let a = c.args.a.now in
    cast_answer _ _ _ c.in-Boolean.is string _ _ _ (text_truth_cast _) a.count (lane_row a.values.now a.present.now a.start a.stride a.back) _ (c.convert-in-Boolean.ensures.answer _)
