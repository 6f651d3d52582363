-- The columns of a table behind those of its levels.
use Rattle.std.specs.Prelude.{pos, List, ◌++◌, map, take, drop, length, Option, Some, None, Result}
use Rattle.cell_core.specs.declared.cell.Label.{Label}
use Rattle.cell_core.specs.declared.cell.Label.TheVariants.{Int}
use Rattle.column_core.specs.cells.Cell.{CellValue, LabelValue}
use Rattle.column_core.specs.cells.Fault.{FaultValue}
use Rattle.frame_store.specs.tables.Table.{ColumnOf, NumberedTable, Table}
use Rattle.frame_store.specs.tables.Value.{Entry}
use Rattle.frame_parts.specs.form.Finish.{first_shared, limited, unless_repeated}
use Rattle.meaning_method.specs.Levels.{level_labels, renumbered}
use Rattle.meaning_method.specs.Methods.{as_frame}

-- the labels of the columns of a frame: 0 is that of a Series without a name
abbrev pub frame_heading : Option Label → Option Label
frame_heading None = Some (Int (pos 0))
frame_heading (Some l) = Some l

abbrev pub frame_headings : NumberedTable → List (Option Label)
frame_headings t = map frame_heading t.headings

-- the labels of the columns of the levels, and then those of a frame
abbrev pub reset_headings : Table → List (Option LabelValue)
reset_headings t = map (λ l. Some l) (level_labels t) ++ t.headings

-- the frame of these columns before those of the table, whose rows have the labels 0, 1 and so on
abbrev pub reset_frame : Table → List (Option LabelValue) → List (ColumnOf CellValue) → Table
reset_frame t headings columns = record (renumbered (as_frame t)) { headings = headings; columns = columns ++ t.columns }

-- the same, where no other column has the label of a new one: the first labels are those of the new columns
abbrev pub reset_result : Table → List (Option LabelValue) → List (ColumnOf CellValue) → Result Entry FaultValue
reset_result t headings columns = unless_repeated (first_shared (take (length columns) headings) (drop (length columns) headings)) (limited (reset_frame t headings columns))
