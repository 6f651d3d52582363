-- The labels of the levels of the rows, as columns.
use Rattle.std.specs.Prelude.{ℕ, List, map, length, slice_index_or, Result}
use Rattle.std.specs.List.{range_with_len}
use Rattle.cell_core.specs.declared.cell.Cell.{Cell}
use Rattle.cell_core.specs.declared.cell.Label.{Label}
use Rattle.column_core.specs.cells.Text.{Text}
use Rattle.column_core.specs.cells.Cell.{CellValue}
use Rattle.column_core.specs.cells.Fault.{FaultValue}
use Rattle.multi_index.specs.Axes.{AxisValue}
use Rattle.frame_store.specs.tables.Table.{ColumnOf}
use Rattle.frame_parts.specs.form.Finish.{try_all}
use Rattle.frame_parts.specs.form.Set.{list_column}
use Rattle.frame_store.specs.Shown.{cells_value}
use Rattle.cell_core.specs.declared.cell.Cell.TheVariants as cell
use Rattle.cell_core.specs.declared.cell.Label.TheVariants as label

-- the cell that a label is
abbrev pub cell_of : Label → Cell
cell_of label.Na = cell.Na
cell_of (label.Int z) = cell.Int z
cell_of (label.Bool b) = cell.Bool b
cell_of (label.Text id) = cell.Text id

-- the labels of a level, as cells
abbrev pub level_cells : AxisValue → ℕ → List Cell
level_cells axis level = map (λ tuple. cell_of (slice_index_or tuple level label.Na)) axis.tuples

-- the columns of the levels
abbrev pub level_column : List Text → AxisValue → ℕ → Result (ColumnOf CellValue) FaultValue
level_column texts axis level = list_column (cells_value texts (level_cells axis level))

abbrev pub level_columns : List Text → AxisValue → Result (List (ColumnOf CellValue)) FaultValue
level_columns texts axis = try_all (level_column texts axis) (range_with_len 0 (length axis.names))
