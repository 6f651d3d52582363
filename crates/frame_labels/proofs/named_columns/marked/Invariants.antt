use Rattle.{
  frame_parts.proofs.Common.{take},
  frame_labels.specs.Named.{AreMarks},
}
use Rattle.frame_labels.proofs.named_columns.marked.Given as goal

-- the marks of the places so far
abbrev pub invariant-loop-k : goal.invariant-loop-k
invariant-loop-k l = AreMarks l.marks.items l.count (take l.k l.places)
