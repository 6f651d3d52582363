use Rattle.{
  std.proofs.Common.{All, take},
  block_manager.specs.{Changes.{numbers_of}, Groups.{IsFilled}},
}
use Rattle.block_manager.proofs.groups.are_filled.Given as goal

abbrev pub invariant-loop-k : goal.invariant-loop-k
invariant-loop-k l = All (IsFilled l.pool) (take l.k (numbers_of l.views))
