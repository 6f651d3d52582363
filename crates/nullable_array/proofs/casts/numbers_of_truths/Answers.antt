use Rattle.{
  column_core.{proofs.{cells.Common.{arith, refl, Boolean, number_of_truth}, CellRows.{range-same}}, specs.{Lanes.{lane_row}, Columns.{truth_cell}}},
  nullable_array.{specs.Casts.{total_cast}, proofs.ColumnAnswers.{cast_answer}},
}
use Rattle.nullable_array.proofs.casts.numbers_of_truths.Goals as goal

pub returns-in-Some-clause-answer : goal.returns-in-Some-clause-answer
returns-in-Some-clause-answer c = λ texts. grind (arith, range-same)

pub returns-in-None-clause-answer : goal.returns-in-None-clause-answer
returns-in-None-clause-answer c = λ texts.
    let a = c.args.a.now in
    cast_answer _ _ _ refl Boolean truth_cell _ (total_cast number_of_truth) (grind arith) a.count (lane_row a.values.now a.present.now a.start a.stride a.back) _ (c.convert.ensures.answer texts)
