use Rattle.frame_parts.proofs.Common.{◌≡◌, length, take}
use Rattle.frame_labels.proofs.reindexing.axis_like.Given as goal

-- the names so far
abbrev pub invariant-loop-level : goal.invariant-loop-level
invariant-loop-level l = record {
  tuples : l.axis.tuples ≡ l.labels;
  size : length l.axis.names ≡ length l.like.names;
  names : take l.level l.axis.names ≡ take l.level l.like.names;
}
