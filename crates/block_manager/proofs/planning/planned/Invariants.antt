use Rattle.{
  std.proofs.Common.{◌≡◌, take, length},
  block_manager.specs.Spots.{Plans},
}
use Rattle.block_manager.proofs.planning.planned.Given as goal

abbrev pub invariant-loop-k : goal.invariant-loop-k
invariant-loop-k l = record {
  plans : Plans l.fn.wholes.runs.items l.places.items l.runs.items l.spots.items (take l.k l.picks) l.marks;
  count : length l.spots.items ≡ l.k;
}
