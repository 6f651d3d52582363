-- What is made of the answers of `json_frames`: cells, frames and refusals.
use Rattle.std.specs.Prelude.{◌≡◌, List, map, length, All}
use Rattle.cell_core.specs.declared.cell.Cell.{Cell}
use Rattle.cell_core.specs.declared.code.Code.TheVariants as code
use Rattle.cell_core.specs.declared.code.Reason.TheVariants as reason
use Rattle.cell_core.specs.declared.grid.Shape.TheVariants.{Frame}
use Rattle.column_core.specs.cells.Text.{Text}
use Rattle.column_core.specs.cells.Cell.{datum}
use Rattle.column_core.specs.Columns.{CellColumn}
use Rattle.multi_index.specs.Axes.{HaveLevels, nameless_axis}
use Rattle.frame_store.specs.tables.Table.{NumberedTable}
use Rattle.frame_store.specs.tables.Value.{Entry, cell}
use Rattle.frame_store.specs.Parts.{table_column, table_with}
use Rattle.frame_store.specs.declared.fault.OpFault.{OpFault}
use Rattle.frame_store.specs.declared.fault.OpFault.TheVariants as op
use Rattle.frame_make.specs.Frames.{headings_of}
use Rattle.json_frames.specs.declared.reading.JsonTable.{JsonTable}
use Rattle.json_frames.specs.declared.reading.JsonFault.{JsonFault}
use Rattle.json_frames.specs.declared.reading.JsonFault.TheVariants as json
use Rattle.json_frames.specs.declared.writing.TextRefusal.{TextRefusal}
use Rattle.json_frames.specs.declared.writing.TextRefusal.TheVariants as written

-- a cell as a call answers it
abbrev pub cell_entry : List Text → Cell → Entry
cell_entry texts c = cell (datum texts c)

-- why a frame has no text, as the refusal of a call
abbrev pub text_refusal : TextRefusal → OpFault
text_refusal (written.Repeated label) = op.Refused (code.BadValue (reason.Repeated label))
text_refusal written.ManyLevels = op.Refused (code.BadValue reason.Levels)
text_refusal written.NoMemory = op.NoMemory

-- why a file isn't read, as the refusal of a call
abbrev pub file_refusal : JsonFault → OpFault
file_refusal (json.NotUtf8 place) = op.Refused (code.NotUtf8 place)
file_refusal json.NotJson = op.Refused (code.BadValue reason.NotJson)
file_refusal json.NotTable = op.Refused (code.BadValue reason.NotTable)
file_refusal json.MixedKinds = op.Refused code.WrongKind
file_refusal json.TooLarge = op.Refused code.Limit
file_refusal json.NoMemory = op.NoMemory

-- each label is a tuple of its own; each column has a label, and a cell for each row
pub record PartsFit (read : JsonTable) : Type 0 where
  pub labels : HaveLevels 1 read.labels
  pub rows : HaveLevels 1 read.rows
  pub headed : length read.labels ≡ length read.columns
  pub filled : All (λ (c : CellColumn). length c.cells ≡ length read.rows) read.columns

-- the frame of these columns, with these labels
abbrev pub frame_of : JsonTable → NumberedTable
frame_of read = table_with Frame (nameless_axis read.rows 1) (headings_of read.labels) (map table_column read.columns)
