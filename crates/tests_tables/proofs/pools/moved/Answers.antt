use Rattle.tests_tables.proofs.PoolLaws.{moved_shows}
use Rattle.tests_tables.proofs.pools.moved.Goals as goal

pub returns-clause-kept : goal.returns-clause-kept
returns-clause-kept c = moved_shows _ _ _ _ (c.own.ensures.shared c.requires.shared)
