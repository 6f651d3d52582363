use Rattle.{
  meaning_pick.proofs.cells.Common.{arith},
  index_core.proofs.RangeLaws.{length-range_labels},
}
use Rattle.index_core.proofs.index.Index.len.Goals as goal

pub returns-in-Below : goal.returns-in-Below
returns-in-Below = grind (arith, length-range_labels)
