use Rattle.{
  column_core.proofs.cells.Common.{◌∙◌},
  rolling.proofs.ExpandingLaws.{taken_more, taken_next},
}
use Rattle.rolling.proofs.columns.ExpandingAnswering.answer.Goals as goal

pub returns-clause-taken : goal.returns-clause-taken
returns-clause-taken c = λ rows has. rw c.gather.ensures.taken (taken_more _ rows has _)

pub returns-clause-answer : goal.returns-clause-answer
returns-clause-answer c = λ rows has. c.gather.ensures.answer ∙ taken_next _ rows _ has
