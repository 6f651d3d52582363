use Rattle.{
  frame_parts.proofs.Common.{◌≡◌, filter, take, distinct},
  frame_select.specs.Headings.{same_heading},
  frame_merge.proofs.KeyLaws.{is_common},
}
use Rattle.frame_merge.proofs.keys.common_headings.Given as goal

-- the common headings so far
abbrev pub invariant-loop-place : goal.invariant-loop-place
invariant-loop-place l = l.common.keys ≡ distinct same_heading (filter (is_common l.r.headings) (take l.place l.l.headings))
