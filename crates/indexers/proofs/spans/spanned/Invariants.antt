use Rattle.column_core.proofs.cells.Common.{◌≡◌, map, range_with_len, place_from}
use Rattle.indexers.proofs.spans.spanned.Given as goal

-- the places so far
abbrev pub invariant-loop-row : goal.invariant-loop-row
invariant-loop-row l = l.places ≡ map (place_from l.rows.start l.rows.step) (range_with_len 0 l.row)
