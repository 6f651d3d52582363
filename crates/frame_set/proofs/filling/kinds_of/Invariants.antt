use Rattle.{
  frame_parts.proofs.Common.{◌≡◌, map, take},
  frame_set.specs.Values.{kind_there},
}
use Rattle.frame_set.proofs.filling.kinds_of.Given as goal

-- the kinds so far
abbrev pub invariant-loop-place : goal.invariant-loop-place
invariant-loop-place l = l.kinds.items ≡ map (λ place. kind_there l.on place l.added) (take l.place-index l.place-items)
