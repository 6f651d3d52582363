use Rattle.{
  nullable_array.proofs.ColumnAnswers.{given_at},
  frame_methods.proofs.OpLaws.{cumulated_count, column_made},
}
use Rattle.frame_methods.proofs.column_ops.CumulatedColumnOp.column.Goals as goal

pub returns-clause-given : goal.returns-clause-given
returns-clause-given c = given_at _ _ c.cumulate.ensures.given

pub returns-clause-rows : goal.returns-clause-rows
returns-clause-rows c = cumulated_count _ _ _ _ (c.cumulate.ensures.answer c.args.dict.now)

pub returns-clause-answer : goal.returns-clause-answer
returns-clause-answer c = column_made _ _ _ (c.cumulate.ensures.answer _)
