-- Series that are aligned to the labels of rows.
use Rattle.std.specs.Prelude.{List, length, Result, Ok}
use Rattle.column_core.specs.cells.Cell.{CellValue, LabelValue}
use Rattle.column_core.specs.cells.Fault.{FaultValue, then_value}
use Rattle.frame_store.specs.tables.Table.{ColumnOf, Table}
use Rattle.frame_select.specs.select.Set.{aligned_column, put_result}

-- the cells of a column, where there is one
abbrev pub cells_in : Result (ColumnOf CellValue) FaultValue → Result (List CellValue) FaultValue
cells_in column = then_value column (λ c. Ok c.cells)

-- the frame with a Series under a label, aligned to its rows
abbrev pub aligned_set : Table → LabelValue → Table → Result Table FaultValue
aligned_set t l s = then_value (aligned_column (length t.level_names) t.labels s) (put_result t l)
