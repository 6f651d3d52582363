use Rattle.column_core.proofs.cells.Common.{arith}
use Rattle.indexers.proofs.labels.rows_of_key.Goals as goal

pub returns-clause-picked : goal.returns-clause-picked
returns-clause-picked = grind arith
