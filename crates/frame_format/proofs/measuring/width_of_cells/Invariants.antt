use Rattle.meaning_format.{proofs.cells.Common.{◌≡◌, map}, specs.{Told.{cell_at}, Print.{shown_cell, widest, places}}}
use Rattle.frame_format.proofs.measuring.width_of_cells.Given as goal

abbrev pub invariant-loop-row : goal.invariant-loop-row
invariant-loop-row g l = l.most ≡ widest (map (λ row. shown_cell (cell_at l.source row l.column)) (places l.row))
