use Rattle.{
  frame_parts.proofs.Common.{◌≡◌, take},
  frame_select.proofs.ReachLaws.{heading_tuples},
}
use Rattle.frame_select.proofs.reaching.columns_axis.Given as goal

-- the labels so far
abbrev pub invariant-loop-place : goal.invariant-loop-place
invariant-loop-place l = l.labels ≡ heading_tuples l.on.headings (take l.place-index l.place-items)
