use Rattle.tests_tables.proofs.PoolLaws.{end_shows}
use Rattle.tests_tables.proofs.pools.ended.Goals as goal

pub returns : goal.returns
returns c = end_shows _ _ _ c.release.ensures
