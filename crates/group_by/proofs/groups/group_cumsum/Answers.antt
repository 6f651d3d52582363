use Rattle.{
  column_core.proofs.cells.Common.{arith},
  group_by.proofs.CallLaws.{cumsum_answer},
}
use Rattle.group_by.proofs.groups.group_cumsum.Goals as goal

pub returns-clause-answer : goal.returns-clause-answer
returns-clause-answer g c = λ texts.
    cumsum_answer _ _ _ _ _ c.groups.ensures
    (grind arith) c.in_ok-running_sums.ensures
