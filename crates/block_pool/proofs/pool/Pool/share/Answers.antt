use Rattle.{
  column_core.proofs.cells.Common.{◌≡◌, ◌+◌, ◌-◌, sym, arith},
  block_pool.proofs.{PoolLaws.{live_slot, live_lot, few_users, free_slot, spare_is, block_is, grid_is, size_is}, LotLaws.{laid_pool, laid_shares}},
}
use Rattle.block_pool.proofs.pool.Pool.share.Goals as goal

pub index-view-requires : goal.index-view-requires
index-view-requires c = live_slot _ _ _ _ c.self.view_is c.args.id.0 c.requires.live

pub lay-slot-requires-clause-few : goal.lay-slot-requires-clause-few
lay-slot-requires-clause-few c =
    omega (arith, few_users _ _ _ _ _ c.self.invariant c.index-view.result.now.block, c.self.invariant.room, c.requires.spare, spare_is c.self.inside.lots.slots c.self.inside.views.slots _ _ c.self.view_is, c.capacity-room.ensures.value)

pub invariant_of-self : goal.invariant_of-self
invariant_of-self c =
    let v = c.index-view.result.now in
    let live = live_lot _ _ _ _ _ c.self.invariant c.args.id.0 v c.index-view.ensures in
    let less : c.self.inside.spare - 1 + 1 ≡ c.self.inside.spare = omega (arith, c.requires.spare, spare_is c.self.inside.lots.slots c.self.inside.views.slots _ _ c.self.view_is) in
    rw c.lay-slot.ensures.capacity
    (laid_pool c.self.inside.lots.slots _ c.self.inside.views.slots _ c.self.inside.spare (c.self.inside.spare - 1) _ _ c.lay-slot.result v c.self.invariant live c.lay-slot.ensures.lots c.lay-slot.ensures.views less
    c.lay-slot.ensures.fresh (c.self.invariant.placed c.args.id.0 v c.index-view.ensures))

pub returns : goal.returns
returns c =
    let lots = c.self.inside.lots.slots in
    let views = c.self.inside.views.slots in
    let v = c.index-view.result.now in
    let live = live_lot _ _ _ _ _ c.self.invariant c.args.id.0 v c.index-view.ensures in
    let less : c.self.inside.spare - 1 + 1 ≡ c.self.inside.spare = omega (arith, c.requires.spare, spare_is c.self.inside.lots.slots c.self.inside.views.slots _ _ c.self.view_is) in
    record {
      fresh = free_slot _ _ _ _ c.self.view_is c.lay-slot.result c.lay-slot.ensures.fresh;
      shares = laid_shares lots _ views _ c.self.inside.spare (c.self.inside.spare - 1) _ _ c.lay-slot.result v c.self.invariant live c.lay-slot.ensures.lots c.lay-slot.ensures.views less
          _ c.self.view_is c.args.id.0 _ (block_is lots views _ _ c.self.view_is c.args.id.0 v c.index-view.ensures) (size_is lots views _ _ c.self.view_is c.args.id.0 v c.index-view.ensures) (sym (grid_is lots views _ _ c.self.view_is c.args.id.0 v c.index-view.ensures));
    }
