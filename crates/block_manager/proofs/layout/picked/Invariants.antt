use Rattle.{std.proofs.Common.{◌≡◌, map, take}, block_manager.specs.Spots.{spot_at}}
use Rattle.block_manager.proofs.layout.picked.Given as goal

abbrev pub invariant-loop-k : goal.invariant-loop-k
invariant-loop-k l = l.picks.items ≡ map (spot_at l.spots) (take l.k l.places)
