use Rattle.{
  frame_parts.proofs.Common.{◌≡◌, map, take},
  frame_labels.specs.Levels.{row_labels},
}
use Rattle.frame_labels.proofs.row_groups.key_tuples.Given as goal

-- the tuples so far
abbrev pub invariant-loop-k : goal.invariant-loop-k
invariant-loop-k l = l.tuples ≡ map (row_labels l.on l.keys) (take l.k l.rows)
