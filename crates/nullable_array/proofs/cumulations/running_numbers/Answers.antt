use Rattle.nullable_array.proofs.{ColumnAnswers.{numbers_given}, RunningLaws.{numbers_run}}
use Rattle.nullable_array.proofs.cumulations.running_numbers.Goals as goal

pub returns-in_ok-run-in-Sum-clause-given : goal.returns-in_ok-run-in-Sum-clause-given
returns-in_ok-run-in-Sum-clause-given g c = numbers_given _ _ _ c.in_ok-run-in-Sum.ensures

pub returns-in_ok-run-in-Sum-clause-answer : goal.returns-in_ok-run-in-Sum-clause-answer
returns-in_ok-run-in-Sum-clause-answer g c = numbers_run _ _ _ _ c.in-Sum.is _ c.in_ok-run-in-Sum.ensures

pub returns-in_ok-run-in-Min-clause-given : goal.returns-in_ok-run-in-Min-clause-given
returns-in_ok-run-in-Min-clause-given g c = numbers_given _ _ _ c.in_ok-run-in-Min.ensures

pub returns-in_ok-run-in-Min-clause-answer : goal.returns-in_ok-run-in-Min-clause-answer
returns-in_ok-run-in-Min-clause-answer g c = numbers_run _ _ _ _ c.in-Min.is _ c.in_ok-run-in-Min.ensures

pub returns-in_ok-run-in-Max-clause-given : goal.returns-in_ok-run-in-Max-clause-given
returns-in_ok-run-in-Max-clause-given g c = numbers_given _ _ _ c.in_ok-run-in-Max.ensures

pub returns-in_ok-run-in-Max-clause-answer : goal.returns-in_ok-run-in-Max-clause-answer
returns-in_ok-run-in-Max-clause-answer g c = numbers_run _ _ _ _ c.in-Max.is _ c.in_ok-run-in-Max.ensures
