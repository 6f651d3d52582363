use Rattle.{
  block_pool.proofs.ChangeLaws.{live_not_free, shares_not_sole_itself},
  tests_tables.proofs.PoolLaws.{cut_shows, cut_keeps, cut_others},
}
use Rattle.tests_tables.proofs.pools.some_rows.Goals as goal

pub returns-clause-shows : goal.returns-clause-shows
returns-clause-shows c = cut_shows _ _ _ _ c.args.rows c.view.ensures.shares c.requires.shows

pub returns-clause-kept : goal.returns-clause-kept
returns-clause-kept c = cut_keeps _ _ _ _ c.args.rows c.view.ensures.shares c.view.ensures.fresh

pub returns-clause-shared : goal.returns-clause-shared
returns-clause-shared c = shares_not_sole_itself _ _ _ _ _ c.view.ensures.shares (live_not_free c.args.pool.now _ _ c.view.ensures.fresh c.requires.shows.live) c.requires.shows.live
