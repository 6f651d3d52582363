-- Rows and columns that are taken from a table.
use Rattle.std.specs.Prelude.{ℕ, List, map, slice_index_or}
use Rattle.column_core.specs.cells.Text.{Text}
use Rattle.frame_store.specs.tables.Settled.{IsSettled}
use Rattle.frame_store.specs.Shown.{headings_value}
use Rattle.cell_core.specs.declared.cell.Cell.{Cell}
use Rattle.cell_core.specs.declared.cell.Cell.TheVariants.{Na}
use Rattle.cell_core.specs.declared.grid.Shape.{Shape}
use Rattle.column_core.specs.Columns.{CellColumn}
use Rattle.frame_store.specs.tables.Table.{ColumnOf, NumberedTable, heading_value, column_at}
use Rattle.multi_index.specs.Axes.{taken_axis, without_leading}
use Rattle.frame_store.specs.Parts.{HeadingList, table_with, axis_of}

-- the cells at these rows, of a column of a kernel and of one of a table
abbrev pub cells_by_place : List ℕ → CellColumn → CellColumn
cells_by_place rows c = record { kind = c.kind; cells = map (λ row. slice_index_or c.cells row Na) rows }

abbrev pub cells_at : List ℕ → ColumnOf Cell → ColumnOf Cell
cells_at rows c = record { kind = c.kind; cells = map (λ row. slice_index_or c.cells row Na) rows }

abbrev pub columns_at : List ℕ → List ℕ → NumberedTable → List (ColumnOf Cell)
columns_at rows columns t = map (λ place. cells_at rows (column_at t.columns place)) columns

-- the table of these rows and columns under these headings
abbrev pub chosen : Shape → HeadingList → List ℕ → List ℕ → NumberedTable → NumberedTable
chosen shape headings rows columns t = table_with shape (taken_axis (axis_of t) rows) headings (columns_at rows columns t)

-- without so many of its leading levels
abbrev pub chosen_under : ℕ → Shape → HeadingList → List ℕ → List ℕ → NumberedTable → NumberedTable
chosen_under count shape headings rows columns t = table_with shape (without_leading (taken_axis (axis_of t) rows) count) headings (columns_at rows columns t)

-- headings whose texts were given their numbers
abbrev pub AreSettledHeadings : List Text → HeadingList → Type 0
AreSettledHeadings texts headings = IsSettled heading_value texts headings.columns_name × IsSettled headings_value texts headings.labels
