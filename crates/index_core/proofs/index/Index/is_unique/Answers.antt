use Rattle.{
  meaning_pick.proofs.cells.Common.{arith},
  index_core.proofs.DifferLaws.{range_differs},
}
use Rattle.index_core.proofs.index.Index.is_unique.Goals as goal

pub returns-in-Below : goal.returns-in-Below
returns-in-Below c = grind (arith, range_differs c.in-Below.field-0, c.in-Below.is, c.self.view_is)
