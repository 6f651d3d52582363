use Rattle.{
  std.proofs.Common.{◌≡◌, ◌++◌, drop, map, take},
  block_manager.specs.Groups.{moved},
}
use Rattle.block_manager.proofs.groups.move_spots.Given as goal

abbrev pub invariant-loop-k : goal.invariant-loop-k
invariant-loop-k l = l.spots ≡ take l.k (map (moved l.targets) l.initial.spots) ++ drop l.k l.initial.spots
