use Rattle.{column_core.proofs.cells.Common.{◌+◌, ◌≤◌, List, Option, ap, arith, refl}, slab.specs.Slab.{Slab}, std.specs.Prelude.{count_by, is_some}, block_pool.{specs.declared.views.View.{View}, proofs.PoolLaws.{grown_pool}}}
use Rattle.block_pool.proofs.pool.Pool.reserve_views.Goals as goal

pub invariant_of-self : goal.invariant_of-self
invariant_of-self c =
    let same = ap (λ (s : Slab View). s.slots) c.reserve.ensures.rest_kept in
    let room : count_by is_some c.reserve.new.self.slots + c.self.inside.spare ≤ c.reserve.new.self.capacity
    = omega (arith, ap (λ (w : List (Option View)). count_by is_some w) same, c.self.invariant.room, c.reserve.ensures.capacity) in
    grown_pool _ _ _ _ _ _ _ _ _ c.self.invariant refl same room

pub invariant_of-self-then-n-self : goal.invariant_of-self-then-n-self
invariant_of-self-then-n-self c =
    let same = ap (λ (s : Slab View). s.slots) c.reserve.ensures.rest_kept in
    grown_pool _ _ _ _ _ _ _ _ _ c.self.invariant refl same (c.in_ok-reserve.ensures.room)
