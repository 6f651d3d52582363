use Rattle.{
  column_core.proofs.cells.Common.{arith},
  nullable_array.proofs.OrderedLaws.{values_kept},
}
use Rattle.nullable_array.proofs.distinct_cells.present_numbers.Goals as goal

pub returns : goal.returns
returns g c = grind (arith, values_kept)
