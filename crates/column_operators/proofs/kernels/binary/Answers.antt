use Rattle.{
  column_core.proofs.cells.Common.{refl, sym, add},
  column_operators.proofs.RowLaws.{column_rows},
}
use Rattle.column_operators.proofs.kernels.binary.Goals as goal

pub returns-in-Add-clause-rows : goal.returns-in-Add-clause-rows
returns-in-Add-clause-rows c = column_rows _ _ add _ _ _ _ refl (sym c.requires.same) c.sums.ensures.answer
