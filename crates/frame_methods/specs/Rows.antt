-- Rows of a table: those without a missing cell, and numbers that tell rows apart.
use Rattle.std.specs.Prelude.{◌≡◌, ℕ, ◌<◌, List, [], length, slice_index, nat_eq, Result}
use Rattle.std.specs.Cmp.Lexicographic.{pointwise}
use Rattle.std.specs.List.{list_all}
use Rattle.column_core.specs.cells.Fault.{FaultValue}
use Rattle.column_core.specs.cells.Reduce.{is_present, same_cell}
use Rattle.frame_store.specs.tables.Table.{NumberedTable, Table}
use Rattle.frame_store.specs.tables.Value.{Entry}
use Rattle.frame_parts.specs.form.Finish.{limited}
use Rattle.multi_index.specs.pick.Rows.{rows_where}
use Rattle.frame_labels.specs.method.Rows.{all_places, cells_by_row, marks_series, repeats}
use Rattle.column_operators.specs.Marks.{same_number}
use Rattle.frame_labels.specs.Rows.{row_cells}

-- the rows in which no cell is missing
abbrev pub complete : Table → List ℕ
complete t = rows_where (list_all is_present) 0 (cells_by_row t (all_places t))

-- whether an earlier row has the same cells in the columns at these places
abbrev pub duplicated_among : Table → List ℕ → Result Entry FaultValue
duplicated_among t places =
    limited (marks_series t (repeats (pointwise same_cell) [] (cells_by_row t places)))

-- a number for each row, equal exactly where all cells in the columns at these places are
pub record AreNumbers (t : NumberedTable) (places numbers : List ℕ) : Type 0 where
  pub count : length numbers ≡ length t.labels
  pub equal : (i j : ℕ) → i < length t.labels → j < length t.labels
      → nat_eq (slice_index numbers i) (slice_index numbers j)
      ≡ pointwise same_number (row_cells t places i) (row_cells t places j)
