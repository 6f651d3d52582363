use Rattle.{
  frame_parts.proofs.Common.{◌≡◌, take},
  frame_select.specs.Selected.{headings_at},
}
use Rattle.frame_select.proofs.labels.headings_at.Given as goal

-- the headings so far
abbrev pub invariant-loop-place : goal.invariant-loop-place
invariant-loop-place l = l.headings.items ≡ headings_at l.on (take l.place-index l.place-items)
