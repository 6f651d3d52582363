use Rattle.{
  frame_parts.proofs.Common.{◌≡◌, map, take, Some},
  frame_reshape.specs.Groups.{answered},
}
use Rattle.frame_reshape.proofs.grouping.answered.Given as goal

-- the groups so far that have an answer
abbrev pub invariant-loop-group : goal.invariant-loop-group
invariant-loop-group l = l.groups ≡ map Some (answered (take l.group l.cells.cells))
