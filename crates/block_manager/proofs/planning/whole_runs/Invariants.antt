use Rattle.{
  std.proofs.Common.{◌≡◌, length},
  block_manager.specs.{Changes.{grids_of, numbers_of}, Spots.{AreWholesOf}},
}
use Rattle.block_manager.proofs.planning.whole_runs.Given as goal

-- the views so far
abbrev pub invariant-loop-view : goal.invariant-loop-view
invariant-loop-view l = record {
  wholes : AreWholesOf (grids_of l.pool (numbers_of l.views)) l.view l.split l.runs.items l.places.items;
  long : length l.places.items ≡ l.view;
}
