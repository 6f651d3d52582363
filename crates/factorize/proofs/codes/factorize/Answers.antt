use Rattle.{
  column_core.proofs.cells.Common.{arith},
  factorize.proofs.GroupLaws.{rows_inside},
}
use Rattle.factorize.proofs.codes.factorize.Goals as goal

pub tuples_of-requires : goal.tuples_of-requires
tuples_of-requires = grind (arith, rows_inside)
