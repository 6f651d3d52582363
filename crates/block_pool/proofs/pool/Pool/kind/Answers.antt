use Rattle.{
  column_core.proofs.cells.Common.{◌∙◌, sym},
  block_pool.proofs.{PoolLaws.{live_slot, live_lot}, LyingLaws.{lies}},
}
use Rattle.block_pool.proofs.pool.Pool.kind.Goals as goal

pub index-view-requires : goal.index-view-requires
index-view-requires c = live_slot _ _ _ _ c.self.view_is c.args.id.0 c.requires

pub index-requires : goal.index-requires
index-requires c = live_lot _ _ _ _ _ c.self.invariant c.args.id.0 _ c.index-view.ensures

pub returns : goal.returns
returns c =
    c.kind.ensures
    ∙ sym (lies c.self.inside.lots.slots c.self.inside.views.slots _ _ _ c.self.invariant _ c.self.view_is c.args.id.0 c.index-view.result.now c.index.result.now c.index-view.ensures c.index.ensures).kind
