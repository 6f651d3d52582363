use Rattle.{
  frame_parts.proofs.Common.{◌≡◌, ◌+◌, length, take},
  frame_reshape.specs.Stacks.{stacked_tuples},
}
use Rattle.frame_reshape.proofs.stacking.stacked_axis.Given as goal

-- the names so far
abbrev pub invariant-loop-level : goal.invariant-loop-level
invariant-loop-level l = record {
  tuples : l.axis.tuples ≡ stacked_tuples l.on;
  size : length l.axis.names ≡ length l.on.level_names + 1;
  names : take l.level l.axis.names ≡ take l.level l.on.level_names;
}
