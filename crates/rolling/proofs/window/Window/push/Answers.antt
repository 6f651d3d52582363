use Rattle.rolling.proofs.SlideLaws.{pushed_more, pushed_answer}
use Rattle.rolling.proofs.window.Window.push.Goals as goal

pub returns-clause-pushed : goal.returns-clause-pushed
returns-clause-pushed c = λ pushed has. rw (← c.number_in.ensures) (pushed_more _ pushed _ c.slide.ensures.some has _ c.slide.ensures.window)

pub returns-clause-answer : goal.returns-clause-answer
returns-clause-answer c = λ texts pushed has. rw (c.cell_of_number.ensures.cell, c.slide.ensures.answer, ← c.number_in.ensures) (pushed_answer _ pushed _ c.slide.ensures.some has texts)
