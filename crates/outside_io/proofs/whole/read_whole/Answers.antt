use Rattle.{
  meaning_cells.proofs.Common.{IfOk-weaker},
  outside_io.proofs.ReadOff.{whole-from_rest, longer-from_rest},
}
use Rattle.outside_io.proofs.whole.read_whole.Goals as goal

pub returns-clause-told : goal.returns-clause-told
returns-clause-told g c =
    IfOk-weaker _ _ _ (λ bytes told. whole-from_rest _ _ _ bytes c.in-Fetched.ensures.rest told) c.read_rest.ensures.told

pub returns-clause-told_longer : goal.returns-clause-told_longer
returns-clause-told_longer g c =
    λ is. longer-from_rest _ _ _ _ c.in-Fetched.ensures.rest (c.read_rest.ensures.told_longer is)
