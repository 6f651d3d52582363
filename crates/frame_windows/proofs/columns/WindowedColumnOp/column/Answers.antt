use Rattle.{
  frame_methods.proofs.{nullable_array.ColumnAnswers.{given_at}, OpLaws.{column_made}},
  frame_windows.proofs.WindowLaws.{rolled_count, expanded_count},
}
use Rattle.frame_windows.proofs.columns.WindowedColumnOp.column.Goals as goal

-- windows of so many rows
pub returns-in-Rolling-clause-given : goal.returns-in-Rolling-clause-given
returns-in-Rolling-clause-given c = given_at _ _ c.roll.ensures.given

pub returns-in-Rolling-clause-rows : goal.returns-in-Rolling-clause-rows
returns-in-Rolling-clause-rows c = rolled_count _ _ _ _ _ _ (c.roll.ensures.answer c.args.dict.now)

pub returns-in-Rolling-clause-answer : goal.returns-in-Rolling-clause-answer
returns-in-Rolling-clause-answer c = rw c.in-Rolling.is (column_made _ _ _ (c.roll.ensures.answer _))

-- windows of all rows up to each
pub returns-in-Expanding-clause-given : goal.returns-in-Expanding-clause-given
returns-in-Expanding-clause-given c = given_at _ _ c.expand.ensures.given

pub returns-in-Expanding-clause-rows : goal.returns-in-Expanding-clause-rows
returns-in-Expanding-clause-rows c = expanded_count _ _ _ _ _ (c.expand.ensures.answer c.args.dict.now)

pub returns-in-Expanding-clause-answer : goal.returns-in-Expanding-clause-answer
returns-in-Expanding-clause-answer c = rw c.in-Expanding.is (column_made _ _ _ (c.expand.ensures.answer _))
