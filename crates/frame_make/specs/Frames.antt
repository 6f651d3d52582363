-- The frame of the columns of a file.
use Rattle.std.specs.Prelude.{List, map, slice_get, None}
use Rattle.cell_core.specs.declared.cell.Label.{Label}
use Rattle.cell_core.specs.declared.code.Code.TheVariants as code
use Rattle.cell_core.specs.declared.code.Reason.TheVariants as reason
use Rattle.cell_core.specs.declared.grid.Shape.TheVariants.{Frame}
use Rattle.column_core.specs.Blocks.{CellBlock}
use Rattle.column_core.specs.Columns.{CellColumn}
use Rattle.multi_index.specs.Axes.{range_axis}
use Rattle.frame_store.specs.tables.Table.{NumberedTable}
use Rattle.frame_store.specs.Parts.{HeadingList, single_block, table_column, table_with}
use Rattle.frame_store.specs.declared.fault.OpFault.{OpFault}
use Rattle.frame_store.specs.declared.fault.OpFault.TheVariants as op
use Rattle.csv_frames.specs.declared.table.CsvTable.{CsvTable}
use Rattle.csv_frames.specs.declared.table.CsvFault.{CsvFault}
use Rattle.csv_frames.specs.declared.table.CsvFault.TheVariants as csv

-- the headings of columns, each the label of a tuple of its own
abbrev pub headings_of : List (List Label) → HeadingList
headings_of labels = record { columns_name = None; labels = map (λ tuple. slice_get tuple 0) labels }

-- a column that was read as a block
abbrev pub column_block : CellColumn → CellBlock
column_block c = single_block (table_column c)

-- the frame of these columns; the labels of its rows are 0, 1 and so on
abbrev pub frame_of : CsvTable → NumberedTable
frame_of read = table_with Frame (range_axis read.rows) (headings_of read.labels) (map table_column read.columns)

-- why a file isn't read, as the refusal of a call
abbrev pub refusal_of : CsvFault → OpFault
refusal_of (csv.NotUtf8 place) = op.Refused (code.NotUtf8 place)
refusal_of csv.NoColumn = op.Refused code.NoRecords
refusal_of (csv.LongRow number expected seen) = op.Refused (code.LongRow number expected seen)
refusal_of csv.NotCast = op.Refused (code.BadValue reason.Cast)
refusal_of csv.TooLarge = op.Refused code.Limit
refusal_of csv.NoMemory = op.NoMemory
