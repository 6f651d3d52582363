-- The cells of rows.
use Rattle.{
  frame_parts.proofs.Common.{◌≡◌, ℕ, List, map, length, slice_index_or, CellValue, na_cell, tabulate, Table, column_at},
  column_core.proofs.CellRows.{map-map},
  meaning_method.specs.Rows.{cells_by_row},
}

-- the cells of a row in the columns at these places, and of all rows
abbrev pub cells_in : Table → List ℕ → ℕ → List CellValue
cells_in t places row = map (λ c. slice_index_or c.cells row na_cell) (map (column_at t.columns) places)

pub by_rows : (t : Table) (places : List ℕ) → cells_by_row t places ≡ tabulate (length t.labels) (cells_in t places)
by_rows = search map-map
