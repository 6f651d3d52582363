use Rattle.{
  frame_parts.proofs.Common.{arith},
  frame_labels.proofs.LevelColumnLaws.{cell_is},
}
use Rattle.frame_labels.proofs.level_columns.LevelCellsCellList.cell.Goals as goal

pub returns : goal.returns
returns = grind (arith, cell_is)
