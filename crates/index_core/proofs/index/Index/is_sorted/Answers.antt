use Rattle.{
  meaning_pick.proofs.cells.Common.{arith},
  index_core.proofs.NumberLaws.{range_in_order},
}
use Rattle.index_core.proofs.index.Index.is_sorted.Goals as goal

pub returns-in-Below : goal.returns-in-Below
returns-in-Below c = grind (arith, range_in_order c.args.dict.now c.in-Below.field-0, c.in-Below.is, c.self.view_is)
