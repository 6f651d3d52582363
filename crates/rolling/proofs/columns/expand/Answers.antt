use Rattle.{
  nullable_array.proofs.ColumnAnswers.{numbers_given},
  rolling.proofs.{ExpandingLaws.{none_taken}, ColumnLaws.{expanded_answer}},
}
use Rattle.rolling.proofs.columns.expand.Goals as goal

pub answered-requires : goal.answered-requires
answered-requires c = none_taken _ c.new.ensures.pushed

pub returns-in_ok-answered-in-Ints-clause-given : goal.returns-in_ok-answered-in-Ints-clause-given
returns-in_ok-answered-in-Ints-clause-given c = numbers_given _ _ _ c.in_ok-answered-in-Ints.ensures

pub returns-in_ok-answered-in-Ints-clause-answer : goal.returns-in_ok-answered-in-Ints-clause-answer
returns-in_ok-answered-in-Ints-clause-answer c = λ texts. rw (← c.a.view_is, c.in-Ints.is) (expanded_answer _ _ _ _ _ _ c.new.ensures.settings c.in_ok-answered-in-Ints.ensures texts)
