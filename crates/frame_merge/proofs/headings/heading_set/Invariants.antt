use Rattle.{
  frame_parts.proofs.Common.{take},
  frame_select.specs.Selected.{headings_at},
  frame_merge.specs.Headings.{AreAmong},
}
use Rattle.frame_merge.proofs.headings.heading_set.Given as goal

-- the headings so far
abbrev pub invariant-loop-k : goal.invariant-loop-k
invariant-loop-k l = AreAmong l.made.keys (headings_at l.on (take l.k l.places))
