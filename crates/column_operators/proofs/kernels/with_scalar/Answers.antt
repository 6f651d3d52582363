use Rattle.{
  column_core.proofs.cells.Common.{refl, add},
  column_operators.proofs.RowLaws.{scalar_rows},
}
use Rattle.column_operators.proofs.kernels.with_scalar.Goals as goal

pub returns-in-Add-clause-rows : goal.returns-in-Add-clause-rows
returns-in-Add-clause-rows c = scalar_rows _ _ add _ _ _ _ _ refl c.sums_beside.ensures.answer
