use Rattle.column_core.proofs.cells.Common.{refl}
use Rattle.tests_tables.proofs.PoolLaws.{added_shows}
use Rattle.tests_tables.proofs.pools.added.Goals as goal

pub returns : goal.returns
returns c =
    let block = c.into_block.ensures in
    added_shows _ _ _ 1 5 c.into_block.result c.in-Ok.ensures.ok (rw block refl) (rw block c.requires.rows) (rw block c.requires.kind)
