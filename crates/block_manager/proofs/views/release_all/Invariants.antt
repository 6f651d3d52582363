use Rattle.{
  block_pool.specs.Pools.{PoolValue},
  block_manager.specs.{Managed.{AreLive}, Changes.{EndsEach, numbers_of}},
}
use Rattle.block_manager.proofs.views.release_all.Given as goal

abbrev pub invariant-loop-view : goal.invariant-loop-view
invariant-loop-view l = record {
  live : AreLive l.pool (numbers_of l.left.items);
  ended : (final : PoolValue) → EndsEach l.pool (numbers_of l.left.items) final → EndsEach l.initial.pool (numbers_of l.initial.left.items) final;
}

abbrev pub decreases-loop-view : goal.decreases-loop-view
decreases-loop-view l = goal.left-loop-view l
