use Rattle.{
  frame_parts.proofs.Common.{◌≡◌, take},
  frame_ops.specs.Widening.{headings_of_keys},
}
use Rattle.frame_ops.proofs.widening.headings_of_keys.Given as goal

abbrev pub invariant-loop-place : goal.invariant-loop-place
invariant-loop-place l = l.headings ≡ headings_of_keys l.fn.name (take l.place l.keys.tuples)
