use Rattle.{frame_reshape.proofs.MeltCells.{heading_is}}
use Rattle.frame_reshape.proofs.melting.HeadingCellsCellList.cell.Goals as goal

pub returns : goal.returns
returns c = heading_is c.args.self.now.on.now c.args.self.now.places.now c.args.place _ _ _ _ c.at.ensures c.heading.ensures.value c.column_label.ensures c.cell_of.ensures
