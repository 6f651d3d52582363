use Rattle.{
  frame_parts.proofs.Common.{◌≡◌, map, range_with_len},
  column_core.proofs.cells.Common.{place_from},
}
use Rattle.frame_select.proofs.selecting.sliced_axis.Given as goal

-- the places so far
abbrev pub invariant-loop-row : goal.invariant-loop-row
invariant-loop-row l = l.places ≡ map (place_from l.rows.start l.rows.step) (range_with_len 0 l.row)
