use Rattle.tests_tables.proofs.PoolLaws.{set_shows}
use Rattle.tests_tables.proofs.pools.put.Goals as goal

pub returns : goal.returns
returns c = λ q columns rows was. rw c.set.ensures (set_shows _ _ _ _ q columns rows was)
