use Rattle.{
  column_core.proofs.cells.Common.{◌≡◌, ap, sym, ◌∙◌, eq-eqb, eqb-true},
  block_pool.{specs.Placed.{slot, users_of}, proofs.PoolLaws.{live_slot, live_lot, sole_from_users, users_from_sole}},
}
use Rattle.block_pool.proofs.pool.Pool.sole.Goals as goal

pub index-view-requires : goal.index-view-requires
index-view-requires c = live_slot _ _ _ _ c.self.view_is c.args.id.0 c.requires

pub index-requires : goal.index-requires
index-requires c = live_lot _ _ _ _ _ c.self.invariant c.args.id.0 _ c.index-view.ensures

pub returns : goal.returns
returns c =
    let users : users_of (slot c.self.inside.lots.slots c.index-view.result.now.block) ≡ c.index.result.now.users = ap users_of c.index.ensures in (
      λ one. sole_from_users _ _ _ _ _ c.self.invariant _ c.self.view_is c.args.id.0 _ c.index-view.ensures (users ∙ eqb-true _ _ one),
      λ sole. eq-eqb _ _ (sym users ∙ users_from_sole _ _ _ _ _ c.self.invariant _ c.self.view_is c.args.id.0 _ c.index-view.ensures sole),
    )
