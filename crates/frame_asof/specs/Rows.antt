-- The nearest row of each row.
use Rattle.std.specs.Prelude.{◌≡◌, ℕ, ℤ, List, map, length, All, Option, Some, Result, Ok, Err}
use Rattle.std.specs.List.{zip, range_with_len}
use Rattle.cell_core.specs.declared.cell.Label.{Label}
use Rattle.cell_core.specs.declared.code.Code.TheVariants.{BadValue}
use Rattle.cell_core.specs.declared.code.Reason.TheVariants as reason
use Rattle.column_core.specs.cells.Text.{Text}
use Rattle.column_core.specs.Columns.{CellColumn}
use Rattle.column_core.specs.Moves.{IsPlaceOf}
use Rattle.factorize.specs.Keys.{column_keys}
use Rattle.asof_merge.specs.Keys.{keys_of}
use Rattle.asof_merge.specs.declared.fault.AsofFault.{AsofFault}
use Rattle.asof_merge.specs.declared.fault.AsofFault.TheVariants as fault
use Rattle.frame_store.specs.tables.Table.{NumberedTable}
use Rattle.frame_store.specs.declared.fault.OpFault.{OpFault}
use Rattle.frame_store.specs.declared.fault.OpFault.TheVariants.{Refused, NoMemory}

-- the key of each row, from a column, with its cells in others
abbrev pub rows_in : List Text → CellColumn → List CellColumn → List (Option ℤ × List Label)
rows_in texts c by = zip (keys_of texts c.cells) (column_keys by (length c.cells))

-- numbers of rows don't depend on texts
abbrev pub rows_seen : List Text → List (Option ℕ) → List (Option ℕ)
rows_seen texts rows = rows

-- all rows, as many as these
abbrev pub all_rows : List (Option ℕ) → List (Option ℕ)
all_rows rows = map Some (range_with_len 0 (length rows))

-- what a search for the nearest rows answers, as a part of a form
abbrev pub met_result : Result (List (Option ℕ)) AsofFault → Result (List (Option ℕ)) OpFault
met_result (Ok rows) = Ok rows
met_result (Err (fault.Unsorted side row)) = Err (Refused (BadValue (reason.Unsorted side row)))
met_result (Err fault.NoMemory) = Err NoMemory

-- a row of the right side for each of the left, if there is one
pub record AreRowsFor (l r : NumberedTable) (rows : List (Option ℕ)) : Type 0 where
  pub count : length rows ≡ length l.labels
  pub inside : All (IsPlaceOf (length r.labels)) rows
