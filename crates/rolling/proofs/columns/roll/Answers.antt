use Rattle.{
  column_core.proofs.cells.Common.{sym, ◌∙◌},
  rolling.proofs.ColumnLaws.{longer_answer},
}
use Rattle.rolling.proofs.columns.roll.Goals as goal

pub returns-in_ok-roll_numbers-in-Ints-clause-answer : goal.returns-in_ok-roll_numbers-in-Ints-clause-answer
returns-in_ok-roll_numbers-in-Ints-clause-answer c = λ texts. rw (← c.a.view_is, c.in-Ints.is) (c.in_ok-roll_numbers-in-Ints.ensures.answer texts)

pub returns-in_ok-roll_numbers-in-Ints-clause-longer : goal.returns-in_ok-roll_numbers-in-Ints-clause-longer
returns-in_ok-roll_numbers-in-Ints-clause-longer c = λ texts within. sym (longer_answer _ _ _ c.args.a texts within) ∙ rw (← c.a.view_is, c.in-Ints.is) (c.in_ok-roll_numbers-in-Ints.ensures.answer texts)
