use Rattle.column_core.proofs.{cells.Common.{arith}, CellRows.{range-same}}
use Rattle.nullable_array.proofs.reductions.reduce_truths.Goals as goal

pub returns-in-Some-clause-value : goal.returns-in-Some-clause-value
returns-in-Some-clause-value c = λ texts. grind (arith, range-same)
