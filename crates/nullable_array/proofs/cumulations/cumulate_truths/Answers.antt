use Rattle.nullable_array.proofs.{ColumnAnswers.{numbers_given}, RunningLaws.{truth_sums}}
use Rattle.nullable_array.proofs.cumulations.cumulate_truths.Goals as goal

pub returns-in_ok-run-in-Sum-clause-given : goal.returns-in_ok-run-in-Sum-clause-given
returns-in_ok-run-in-Sum-clause-given c = numbers_given _ _ _ c.in_ok-run-in-Sum.ensures

pub returns-in_ok-run-in-Sum-clause-answer : goal.returns-in_ok-run-in-Sum-clause-answer
returns-in_ok-run-in-Sum-clause-answer c = truth_sums _ _ _ _ c.in-Sum.is c.in_ok-run-in-Sum.ensures
