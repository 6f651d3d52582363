use Rattle.column_core.proofs.{cells.Common.{arith}, CellRows.{range-same}}
use Rattle.nullable_array.proofs.cumulations.cumulate_numbers.Goals as goal

pub returns-in-Some-clause-answer : goal.returns-in-Some-clause-answer
returns-in-Some-clause-answer c = λ texts. grind (arith, range-same)
