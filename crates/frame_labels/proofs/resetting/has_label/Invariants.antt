use Rattle.{
  frame_parts.proofs.Common.{◌≡◌, Some, list_any, heading_value, same_heading, headings_value},
  frame_labels.{specs.Resets.{frame_headings}, proofs.ResetLaws.{stands_from}},
}
use Rattle.frame_labels.proofs.resetting.has_label.Given as goal

-- no column so far has the label
abbrev pub invariant-loop-place : goal.invariant-loop-place
invariant-loop-place l = stands_from l.dict l.label l.on l.place ≡ list_any (same_heading (heading_value l.dict (Some l.label))) (headings_value l.dict (frame_headings l.on))
