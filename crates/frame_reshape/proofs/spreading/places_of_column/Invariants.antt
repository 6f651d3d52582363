use Rattle.{
  frame_parts.proofs.Common.{◌≡◌, map, length, range_with_len},
  reshape.specs.shapes.Unstacking.{place_at},
}
use Rattle.frame_reshape.proofs.spreading.places_of_column.Given as goal

-- the rows so far
abbrev pub invariant-loop-row : goal.invariant-loop-row
invariant-loop-row l = l.places ≡ map (λ row. place_at l.spread.places (length l.spread.columns) row l.column) (range_with_len 0 l.row)
