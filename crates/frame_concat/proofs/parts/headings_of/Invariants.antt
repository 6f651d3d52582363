use Rattle.frame_parts.proofs.Common.{◌≡◌, take}
use Rattle.frame_concat.proofs.parts.headings_of.Given as goal

abbrev pub invariant-loop-place : goal.invariant-loop-place
invariant-loop-place l = l.headings.items ≡ take l.place l.on.headings
