use Rattle.{
  meaning_pick.proofs.cells.Common.{arith},
  index_core.proofs.SameLaws.{ranges_same},
}
use Rattle.index_core.proofs.index.Index.same_labels.Goals as goal

pub returns-in-Below-Below : goal.returns-in-Below-Below
returns-in-Below-Below c =
    ranges_same _ _ c.in-Below-Below.m c.in-Below-Below.n _ (search) (search)
    (grind arith)
