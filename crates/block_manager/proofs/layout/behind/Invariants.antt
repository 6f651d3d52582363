use Rattle.{
  std.proofs.Common.{◌≡◌, ◌++◌, take, map},
  block_manager.specs.Spots.{all_single, shifted},
}
use Rattle.block_manager.proofs.layout.behind.Given as goal

abbrev pub invariant-loop-view : goal.invariant-loop-view
invariant-loop-view l = l.made.items ≡ all_single l.view

abbrev pub invariant-loop-k : goal.invariant-loop-k
invariant-loop-k l = l.made.items ≡ all_single l.count ++ map (shifted l.count) (take l.k l.spots)
