use Rattle.{
  meaning_pick.proofs.cells.Common.{arith, to_z-of_z},
  index_core.proofs.NumberLaws.{nowhere, not_same, label_decides, same_pos, number_there, no_number},
}
use Rattle.index_core.proofs.ranges.place_of_number.Goals as goal

pub returns-then-number-lt0 : goal.returns-then-number-lt0
returns-then-number-lt0 = grind (arith, no_number, to_z-of_z)

pub returns-then-place-n : goal.returns-then-place-n
returns-then-place-n = grind (arith, number_there, to_z-of_z)

pub returns-else-place-n : goal.returns-else-place-n
returns-else-place-n = grind (arith, nowhere, not_same, label_decides, same_pos, to_z-of_z)
