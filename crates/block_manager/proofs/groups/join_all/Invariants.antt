use Rattle.{std.proofs.Common.{◌≡◌, ◌+◌, ◌≤◌, ◌++◌, List, All, length, vec_len}, std.specs.Prelude.{vec_capacity}, block_manager.{specs.{Changes.{numbers_of}, Groups.{GroupValue, HasRoom, groups_seen}}, proofs.JoinedLaws.{AreJoinedSo}}}
use Rattle.block_manager.proofs.groups.join_all.Given as goal

-- the groups so far are joined, and there is room in the list for a view of each of the others
abbrev pub invariant-loop-group : goal.invariant-loop-group
invariant-loop-group l =
    (done : List GroupValue) × (done ++ groups_seen l.group-iterator.rest.items ≡ groups_seen l.fn.groups.items)
    × AreJoinedSo l.fn.pool l.pool done (groups_seen l.group-iterator.rest.items) (numbers_of l.list.items)
    × All HasRoom l.group-iterator.rest.items
    × (vec_len l.list + length l.group-iterator.rest.items ≤ vec_capacity l.list)
