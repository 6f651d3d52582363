use Rattle.{
  meaning_pick.proofs.cells.Common.{arith},
  index_core.proofs.{RangeLaws.{length-range_labels}, SplitLaws.{slice_of_range}},
}
use Rattle.index_core.proofs.index.Index.slice_places.Goals as goal

pub returns-in-Below-clause-rows : goal.returns-in-Below-clause-rows
returns-in-Below-clause-rows = grind (arith, slice_of_range)

pub returns-in-Below-clause-below : goal.returns-in-Below-clause-below
returns-in-Below-clause-below = grind (arith, length-range_labels)
