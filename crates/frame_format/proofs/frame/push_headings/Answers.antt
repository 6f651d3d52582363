use Rattle.{
  meaning_format.proofs.cells.Common.{arith, append_assoc},
  frame_format.proofs.FieldLaws.{flat_more},
}
use Rattle.frame_format.proofs.frame.push_headings.Goals as goal

pub loop-column-preserved : goal.loop-column-preserved
loop-column-preserved = grind (arith, flat_more, append_assoc)
