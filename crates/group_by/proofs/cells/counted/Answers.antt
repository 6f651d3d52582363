use Rattle.{
  column_core.proofs.cells.Common.{arith},
  std.proofs.Common.{to_z-of_z},
  group_by.proofs.GatherLaws.{count_wraps},
}
use Rattle.group_by.proofs.cells.counted.Goals as goal

pub returns-clause-value : goal.returns-clause-value
returns-clause-value c = λ texts. grind (arith, to_z-of_z, count_wraps)
