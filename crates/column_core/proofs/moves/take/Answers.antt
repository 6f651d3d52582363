use Rattle.{
  meaning_cells.proofs.Common.{arith},
  column_core.proofs.ColumnLaws.{length-tabulate},
}
use Rattle.column_core.proofs.moves.take.Goals as goal

pub take_lane-requires : goal.take_lane-requires
take_lane-requires = grind (arith, length-tabulate)

pub take_lane-requires-in-Truths : goal.take_lane-requires-in-Truths
take_lane-requires-in-Truths = grind (arith, length-tabulate)

pub take_lane-requires-in-Texts : goal.take_lane-requires-in-Texts
take_lane-requires-in-Texts = grind (arith, length-tabulate)
