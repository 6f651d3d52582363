use Rattle.{
  meaning_format.{proofs.cells.Common.{◌≡◌, ◌++◌, slice_index}, specs.{Told.{cell_at}, Print.{shown_cell}}},
  frame_format.specs.Layouts.{set_columns},
}
use Rattle.frame_format.proofs.frame.push_cells.Given as goal

abbrev pub invariant-loop-column : goal.invariant-loop-column
invariant-loop-column g l = l.out ≡ l.fn.out ++ set_columns l.column (slice_index l.widths) (λ column. shown_cell (cell_at l.source l.row column))
