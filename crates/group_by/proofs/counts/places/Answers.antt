use Rattle.{
  column_core.proofs.cells.Common.{arith},
  group_by.proofs.NumberLaws.{all_alike},
}
use Rattle.group_by.proofs.counts.places.Goals as goal

pub place_rows-requires-clause-zero : goal.place_rows-requires-clause-zero
place_rows-requires-clause-zero c = all_alike 0 c.count.result _ (grind arith)
