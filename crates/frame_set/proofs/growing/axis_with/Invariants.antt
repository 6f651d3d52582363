use Rattle.frame_parts.proofs.Common.{◌≡◌, take}
use Rattle.frame_set.proofs.growing.axis_with.Given as goal

-- the labels so far
abbrev pub invariant-loop-row : goal.invariant-loop-row
invariant-loop-row l = l.labels ≡ take l.row l.on.labels
