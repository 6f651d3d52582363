use Rattle.{
  frame_parts.proofs.Common.{◌≡◌, ◌++◌, take},
  frame_labels.specs.Resets.{frame_headings},
}
use Rattle.frame_labels.proofs.resetting.push_headings.Given as goal

-- the labels of the columns so far
abbrev pub invariant-loop-place : goal.invariant-loop-place
invariant-loop-place l = l.labels.items ≡ l.fn.labels.items ++ take l.place (frame_headings l.on)
