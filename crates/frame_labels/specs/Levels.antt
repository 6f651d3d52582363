-- Names of levels, and cells as labels of rows.
use Rattle.std.specs.Prelude.{ℕ, List, map, Option, Some}
use Rattle.cell_core.specs.declared.cell.Label.{Label}
use Rattle.column_core.specs.cells.Cell.{CellValue, LabelValue}
use Rattle.column_core.specs.cells.Operator.{cell_label}
use Rattle.frame_store.specs.tables.Table.{NumberedTable}
use Rattle.cell_core.specs.Values.{label_of}
use Rattle.frame_labels.specs.Rows.{row_cells}

-- labels as names
abbrev pub some_labels : List CellValue → List (Option LabelValue)
some_labels cells = map (λ c. Some (cell_label c)) cells

-- the cells of a row in the columns at these places, as labels
abbrev pub row_labels : NumberedTable → List ℕ → ℕ → List Label
row_labels t places row = map label_of (row_cells t places row)
