use Rattle.{
  std.proofs.Common.{◌≡◌, ◌<◌, ◌≤◌, ℕ, [], All, length, take, slice_index_or},
  block_pool.specs.Pools.{grid_at},
  block_manager.specs.{declared.groups.Group.{Group}, Changes.{numbers_of}, Groups.{AreGroups, AreSorted, AreTargets, HasRoom, groups_seen}},
}
use Rattle.block_manager.proofs.groups.grouped.Given as goal

-- the views so far are in groups
abbrev pub invariant-loop-k : goal.invariant-loop-k
invariant-loop-k l = record {
  sorted : AreSorted (grid_at l.pool) (take l.k (numbers_of l.views)) (groups_seen l.groups.items);
  targets_are : AreTargets (grid_at l.pool) (take l.k (numbers_of l.views)) (groups_seen l.groups.items) l.targets.items;
  some : All (λ g. 0 < length g.views) (groups_seen l.groups.items);
  fewer : length l.groups.items ≤ l.k;
  empty : All (λ g. g.room.items ≡ []) l.groups.items;
}

-- there is room for the columns of the groups so far
abbrev pub invariant-loop-place : goal.invariant-loop-place
invariant-loop-place l = record {
  groups : AreGroups (grid_at l.pool) (numbers_of l.views) (groups_seen l.groups.items) l.targets.items;
  long : length l.groups.items ≡ l.place-end;
  empty : All (λ g. g.room.items ≡ []) l.groups.items;
  rooms : (k : ℕ) (d : Group) → k < l.place → HasRoom (slice_index_or l.groups.items k d);
}
