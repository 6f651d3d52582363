use Rattle.std.proofs.Common.{sym, subst}
use Rattle.block_manager.specs.{Parts.{HaveRows}, Managed.{columns_on}}
use Rattle.tests_tables.proofs.managers.append.Goals as goal

pub put_column-requires-clause-rows : goal.put_column-requires-clause-rows
put_column-requires-clause-rows c = subst (λ n. HaveRows n (columns_on c.args.pool.now c.args.manager.now)) (sym c.requires.block) c.requires.rows
