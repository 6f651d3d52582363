-- Tables one below the other: Series as frames.
use Rattle.std.specs.Prelude.{◌<◌, List, length, Option, Result, All}
use Rattle.cell_core.specs.declared.grid.Shape.{Shape}
use Rattle.column_core.specs.cells.Cell.{CellValue, LabelValue}
use Rattle.column_core.specs.cells.Fault.{FaultValue, then_value}
use Rattle.column_core.specs.cells.Text.{Text}
use Rattle.frame_store.specs.tables.Settled.{IsSettled}
use Rattle.frame_store.specs.tables.Table.{ColumnOf, NumberedTable, Table, heading_value}
use Rattle.frame_store.specs.tables.Value.{Entry}
use Rattle.frame_parts.specs.form.Finish.{try_all}
use Rattle.meaning_method.specs.Concat.{Concatenation, placed_column_below, frame_column_below, table_below, finished_below}
use Rattle.frame_concat.specs.declared.parts.Sought.{Sought}
use Rattle.frame_concat.specs.declared.parts.Sought.TheVariants.{At, Under}

-- the columns that are sought, one below the other
abbrev pub column_made : List Text → List Table → Sought → Result (ColumnOf CellValue) FaultValue
column_made texts ts (At place) = placed_column_below ts place
column_made texts ts (Under h) = frame_column_below ts (heading_value texts h)

-- the table of such columns under these headings
abbrev pub table_made : List Text → Shape → List Table → Concatenation → List Sought → List (Option LabelValue) → Result Entry FaultValue
table_made texts shape ts c columns headings = then_value (try_all (column_made texts ts) columns) (λ made. finished_below (table_below shape ts c headings made))

-- all parts have a column at the place; a heading's text was given
abbrev pub IsSoughtIn : List Text → List NumberedTable → Sought → Type 0
IsSoughtIn texts parts (At place) = All (λ t. place < length t.columns) parts
IsSoughtIn texts parts (Under h) = IsSettled heading_value texts h
