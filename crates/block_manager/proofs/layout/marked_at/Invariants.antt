use Rattle.{
  std.proofs.Common.{take},
  block_manager.specs.{Changes.{numbers_of}, Spots.{AreMarked}},
}
use Rattle.block_manager.proofs.layout.marked_at.Given as goal

abbrev pub invariant-loop-k : goal.invariant-loop-k
invariant-loop-k l = AreMarked l.pool (numbers_of l.views) l.spots l.columns.items l.split.items (take l.k l.places)
