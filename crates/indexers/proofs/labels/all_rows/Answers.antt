use Rattle.{
  column_core.proofs.cells.Common.{arith},
  indexers.proofs.SpanLaws.{all_listed},
}
use Rattle.indexers.proofs.labels.all_rows.Goals as goal

pub returns-clause-picked : goal.returns-clause-picked
returns-clause-picked = grind (arith, all_listed)
