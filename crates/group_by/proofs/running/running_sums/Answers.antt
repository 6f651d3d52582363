use Rattle.{
  column_core.proofs.cells.Common.{arith, pos, Int},
  group_by.proofs.NumberLaws.{all_alike},
}
use Rattle.group_by.proofs.running.running_sums.Goals as goal

pub sum_rows-requires-clause-zero : goal.sum_rows-requires-clause-zero
sum_rows-requires-clause-zero c = all_alike (Int (pos 0)) c.count.result _ (grind arith)
