use Rattle.frame_parts.proofs.Common.{◌≡◌, take}
use Rattle.frame_reshape.proofs.unstacking.names_of.Given as goal

-- the names so far
abbrev pub invariant-loop-level : goal.invariant-loop-level
invariant-loop-level l = l.names.items ≡ take l.level l.axis.names
