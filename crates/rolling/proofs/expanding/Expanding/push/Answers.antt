use Rattle.rolling.proofs.ExpandingLaws.{pushed_more, pushed_answer}
use Rattle.rolling.proofs.expanding.Expanding.push.Goals as goal

pub returns-clause-pushed : goal.returns-clause-pushed
returns-clause-pushed c = λ pushed has. rw (← c.number_in.ensures) (pushed_more _ pushed _ has _ c.gather.ensures.taken)

pub returns-clause-answer : goal.returns-clause-answer
returns-clause-answer c = λ texts pushed has. rw (c.cell_of_number.ensures.cell, c.gather.ensures.answer, ← c.number_in.ensures) (pushed_answer _ pushed _ has texts)
