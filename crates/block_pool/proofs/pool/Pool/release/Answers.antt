use Rattle.{column_core.proofs.cells.Common.{None}, block_pool.{specs.Placed.{Puts}, proofs.{PoolLaws.{live_slot}, LotLaws.{ended_pool, ends}}}}
use Rattle.block_pool.proofs.pool.Pool.release.Goals as goal

pub remove-view-requires : goal.remove-view-requires
remove-view-requires c = live_slot _ _ _ _ c.self.view_is c.args.id.0 c.requires

pub invariant_of-self : goal.invariant_of-self
invariant_of-self c =
    let views = c.self.inside.views.slots in
    let put : Puts views c.remove-view.new.self.slots c.args.id.0 None = record { changed = c.remove-view.ensures.updates.changed; others = c.remove-view.ensures.updates.others } in
    rw c.remove-view.ensures.capacity
    (ended_pool c.self.inside.lots.slots _ views _ c.self.inside.spare _ _ _ c.args.id.0 c.remove-view.result c.self.invariant c.remove-view.ensures.value c.leave-self-inside.ensures.lots put c.leave-self-inside.ensures.held)

pub returns : goal.returns
returns c =
    let views = c.self.inside.views.slots in
    let put : Puts views c.remove-view.new.self.slots c.args.id.0 None = record { changed = c.remove-view.ensures.updates.changed; others = c.remove-view.ensures.updates.others } in
    ends c.self.inside.lots.slots _ views _ c.self.inside.spare _ c.self.inside.held c.leave-self-inside.result c.args.id.0 c.remove-view.result c.self.invariant c.remove-view.ensures.value c.leave-self-inside.ensures.lots put _ c.self.view_is
