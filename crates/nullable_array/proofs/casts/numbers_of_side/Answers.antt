use Rattle.{
  column_core.{proofs.{cells.Common.{arith, refl, Ok, Int64, Boolean, number_of_truth}, CellRows.{made_column}, RowsMade.{rows_written}}, specs.Columns.{number_cell, truth_cell}},
  nullable_array.{specs.Casts.{total_cast}, proofs.ColumnAnswers.{numbers_given, cast_answer}},
}
use Rattle.nullable_array.proofs.casts.numbers_of_side.Goals as goal

pub returns-clause-answer : goal.returns-clause-answer
returns-clause-answer g c = λ texts.
    cast_answer _ Int64 Int64 refl Boolean truth_cell number_cell (total_cast number_of_truth) (grind arith) _ (g.A.Source.row_of c.args.a) (Ok c.column.result)
    (grind (arith, made_column, rows_written))

pub returns-clause-given : goal.returns-clause-given
returns-clause-given g c = numbers_given _ _ _ c.column.ensures
