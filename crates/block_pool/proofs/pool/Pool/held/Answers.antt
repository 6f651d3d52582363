use Rattle.{
  column_core.proofs.cells.Common.{◌<◌, ◌^◌, arith},
  block_pool.proofs.{PoolLaws.{held_is}, KeepingLaws.{keeps_blocks}},
}
use Rattle.block_pool.proofs.pool.Pool.held.Goals as goal

pub returns-clause-cells : goal.returns-clause-cells
returns-clause-cells c =
    let small : c.self.inside.held < 2 ^ 64 = omega arith in
    held_is c.self.inside.lots.slots c.self.inside.views.slots c.self.inside.spare _ _ c.self.view_is c.self.invariant.cells small

pub returns-clause-kept : goal.returns-clause-kept
returns-clause-kept c = keeps_blocks c.self.inside.lots.slots c.self.inside.views.slots c.self.inside.spare _ _ c.self.invariant _ c.self.view_is
