-- Which values fit the columns that a setting reaches.
use Rattle.std.specs.Prelude.{◌≡◌, ℕ, true, List, slice_index_or}
use Rattle.column_core.specs.cells.Cell.{CellValue, na_cell, holds}
use Rattle.frame_store.specs.tables.Table.{Table, column_at}
use Rattle.frame_store.specs.Setting.{IsGivenFor}

-- each value that is given for a cell is one that the cell's column holds
abbrev pub FitColumns : Table → List ℕ → List ℕ → List CellValue → Type 0
FitColumns t rows columns values =
    (column row number : ℕ) → IsGivenFor rows columns column row number
    → holds (column_at t.columns column).kind (slice_index_or values number na_cell) ≡ true
