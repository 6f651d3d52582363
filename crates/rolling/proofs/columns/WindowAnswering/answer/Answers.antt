use Rattle.{
  column_core.proofs.cells.Common.{◌∙◌},
  rolling.proofs.SlideLaws.{rows_more, rows_answer},
}
use Rattle.rolling.proofs.columns.WindowAnswering.answer.Goals as goal

pub returns-clause-taken : goal.returns-clause-taken
returns-clause-taken c = λ rows has. rows_more _ rows _ c.slide.ensures.some has _ c.slide.ensures.window

pub returns-clause-answer : goal.returns-clause-answer
returns-clause-answer c = λ rows has. c.slide.ensures.answer ∙ rows_answer _ rows _ c.slide.ensures.some has
