use Rattle.{
  column_core.proofs.cells.Common.{◌∙◌, sym, ap, length},
  column_core.specs.Blocks.{CellBlock},
  block_pool.{specs.Placed.{slot, block_of}, proofs.{PoolLaws.{live_slot, grid_is}, ShowLaws.{columns_of}}},
}
use Rattle.block_pool.proofs.pool.Pool.columns.Goals as goal

pub index-requires : goal.index-requires
index-requires c = live_slot _ _ _ _ c.self.view_is c.args.id.0 c.requires

pub returns : goal.returns
returns c =
    let v = c.index.result.now in
    let lots = c.self.inside.lots.slots in
    sym (ap (λ (g : CellBlock). length g.columns) (grid_is lots c.self.inside.views.slots _ _ c.self.view_is c.args.id.0 v c.index.ensures) ∙ columns_of (block_of (slot lots v.block)) v)
