use Rattle.{
  column_core.proofs.cells.Common.{arith},
  nullable_array.proofs.DistinctLaws.{each_value_once},
}
use Rattle.nullable_array.proofs.distinct_cells.few_values.Goals as goal

pub returns : goal.returns
returns g c = grind (arith, each_value_once, g.met.T.Eq.laws)
