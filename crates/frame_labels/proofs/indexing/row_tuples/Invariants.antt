use Rattle.{
  frame_parts.proofs.Common.{◌≡◌, map, range_with_len},
  frame_labels.specs.Levels.{row_labels},
}
use Rattle.frame_labels.proofs.indexing.row_tuples.Given as goal

-- the tuples so far
abbrev pub invariant-loop-row : goal.invariant-loop-row
invariant-loop-row l = l.tuples ≡ map (row_labels l.on l.places) (range_with_len 0 l.row)
