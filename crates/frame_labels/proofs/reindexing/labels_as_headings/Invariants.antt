use Rattle.{
  frame_parts.proofs.Common.{◌≡◌, map, take},
  frame_labels.specs.Reindexed.{heading_of},
}
use Rattle.frame_labels.proofs.reindexing.labels_as_headings.Given as goal

-- the headings so far
abbrev pub invariant-loop-row : goal.invariant-loop-row
invariant-loop-row l = l.headings.items ≡ map heading_of (take l.row l.axis.tuples)
