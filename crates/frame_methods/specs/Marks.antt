-- Columns of marks.
use Rattle.std.specs.Prelude.{Bool, true, false, Result}
use Rattle.cell_core.specs.declared.cell.Kind.TheVariants.{Boolean}
use Rattle.column_core.specs.cells.Cell.{CellValue}
use Rattle.column_core.specs.cells.Fault.{FaultValue}
use Rattle.frame_store.specs.tables.Table.{ColumnOf}
use Rattle.frame_labels.specs.method.Methods.{mapped, missing_mark, present_mark}

abbrev pub mark_of : Bool → CellValue → CellValue
mark_of true = missing_mark
mark_of false = present_mark

abbrev pub marked_column : Bool → ColumnOf CellValue → Result (ColumnOf CellValue) FaultValue
marked_column missing = mapped Boolean (mark_of missing)
