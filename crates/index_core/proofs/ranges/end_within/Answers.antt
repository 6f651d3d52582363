use Rattle.{
  meaning_pick.proofs.cells.Common.{refl},
  index_core.proofs.NumberLaws.{none_passes},
}
use Rattle.index_core.proofs.ranges.end_within.Goals as goal

pub returns-in-None : goal.returns-in-None
returns-in-None c = rw c.in-None.is (λ texts. none_passes _ _ (λ k. refl))

pub returns-in-Some : goal.returns-in-Some
returns-in-Some c = rw c.in-Some.is c.end_at.ensures
