use Rattle.{
  frame_parts.proofs.Common.{◌≡◌, ◌++◌, map, length, List, Text, cell_label, tuple_value},
  frame_signatures.specs.Scalars.{scalars},
}
use Rattle.frame_make.proofs.index.push_labels.Given as goal

-- the labels so far, before the others
abbrev pub invariant-loop-rest : goal.invariant-loop-rest
invariant-loop-rest l = (texts : List Text) → tuple_value texts l.labels.items ++ map cell_label (scalars texts l.rest) ≡ tuple_value texts l.fn.labels.items ++ map cell_label (scalars texts l.parts)

abbrev pub decreases-loop-rest : goal.decreases-loop-rest
decreases-loop-rest l = length l.rest
