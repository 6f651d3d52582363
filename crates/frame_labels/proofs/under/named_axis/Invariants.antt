use Rattle.frame_parts.proofs.Common.{◌≡◌, length, take}
use Rattle.frame_labels.proofs.under.named_axis.Given as goal

-- the names so far
abbrev pub invariant-loop-level : goal.invariant-loop-level
invariant-loop-level l = record {
  tuples : l.named.tuples ≡ l.fn.axis.tuples;
  size : length l.named.names ≡ length l.names;
  names : take l.level l.named.names ≡ take l.level l.names;
}
