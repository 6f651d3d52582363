use Rattle.{
  column_core.proofs.cells.Common.{arith},
  indexers.proofs.MaskLaws.{cell_read, only_inside, rows_of_single},
}
use Rattle.indexers.proofs.masks.keeps.Goals as goal

pub cell-requires : goal.cell-requires
cell-requires = grind (arith, only_inside)

pub returns-in-Some : goal.returns-in-Some
returns-in-Some = grind (arith, cell_read, rows_of_single)

pub returns-in-None : goal.returns-in-None
returns-in-None = grind (arith, rows_of_single)
