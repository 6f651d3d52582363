use Rattle.{
  meaning_format.proofs.cells.Common.{arith, append_assoc},
  frame_format.proofs.FieldLaws.{sides_measured},
}
use Rattle.frame_format.proofs.series.push_series_line.Goals as goal

pub returns : goal.returns
returns = grind (arith, append_assoc, sides_measured)
