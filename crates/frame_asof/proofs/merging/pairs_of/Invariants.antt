use Rattle.frame_parts.proofs.Common.{◌≡◌, map, Some, range_with_len}
use Rattle.frame_asof.proofs.merging.pairs_of.Given as goal

-- the rows so far
abbrev pub invariant-loop-row : goal.invariant-loop-row
invariant-loop-row l = l.left ≡ map Some (range_with_len 0 l.row)
