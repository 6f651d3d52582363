-- Cells that are in a list.
use Rattle.std.specs.Prelude.{List, Option, Some, None, Result}
use Rattle.indexmap.specs.IndexSet.{insert_key}
use Rattle.cell_core.specs.declared.cell.Cell.{Cell}
use Rattle.cell_core.specs.declared.cell.Kind.TheVariants.{Boolean}
use Rattle.column_core.specs.cells.Cell.{CellValue}
use Rattle.column_core.specs.cells.Fault.{FaultValue}
use Rattle.frame_store.specs.tables.Table.{ColumnOf}
use Rattle.column_operators.specs.Marks.{same_number}
use Rattle.frame_labels.specs.method.Methods.{mapped, is_in}

-- the different cells with one more, if there is one
abbrev pub noted : List Cell → Option Cell → List Cell
noted values None = values
noted values (Some c) = insert_key same_number values c

-- the column of whether each cell is in the list
abbrev pub listed_column : List CellValue → ColumnOf CellValue → Result (ColumnOf CellValue) FaultValue
listed_column values = mapped Boolean (is_in values)
