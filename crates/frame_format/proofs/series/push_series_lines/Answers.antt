use Rattle.{
  meaning_format.proofs.cells.Common.{arith, append_assoc},
  frame_format.proofs.FieldLaws.{flat_more},
}
use Rattle.frame_format.proofs.series.push_series_lines.Goals as goal

pub loop-row-preserved : goal.loop-row-preserved
loop-row-preserved = grind (arith, flat_more, append_assoc)
