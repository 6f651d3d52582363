use Rattle.multi_index.proofs.LevelTuples.{tuples_alike}
use Rattle.multi_index.proofs.axis.Axis.levels.Goals as goal

pub returns-clause-alike : goal.returns-clause-alike
returns-clause-alike c = rw (c.count.ensures.count, ← c.self.view_is) (tuples_alike c.self.inside.levels)
