use Rattle.frame_parts.proofs.Common.{◌≡◌, take}
use Rattle.frame_ops.proofs.headings.listed_headings.Given as goal

-- the headings so far
abbrev pub invariant-loop-place : goal.invariant-loop-place
invariant-loop-place l = l.made.items ≡ take l.place l.on.headings
