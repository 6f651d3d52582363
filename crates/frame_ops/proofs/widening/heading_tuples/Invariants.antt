use Rattle.{
  frame_parts.proofs.Common.{◌≡◌, map, take},
  frame_ops.specs.Widening.{heading_tuple},
}
use Rattle.frame_ops.proofs.widening.heading_tuples.Given as goal

-- the tuples of the columns so far
abbrev pub invariant-loop-place : goal.invariant-loop-place
invariant-loop-place l = l.tuples ≡ map heading_tuple (take l.place l.on.headings)
