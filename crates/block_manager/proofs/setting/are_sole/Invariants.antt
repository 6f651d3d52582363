use Rattle.{
  std.proofs.Common.{take},
  block_manager.specs.{Changes.{numbers_of}, Spots.{AreAloneAt}},
}
use Rattle.block_manager.proofs.setting.are_sole.Given as goal

abbrev pub invariant-loop-k : goal.invariant-loop-k
invariant-loop-k l = AreAloneAt l.pool (numbers_of l.views) l.spots (take l.k l.places)
