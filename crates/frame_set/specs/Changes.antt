-- What settings make of tables.
use Rattle.std.specs.Prelude.{◌≡◌, ◌≢◌, ℕ, ◌<◌, ◌≤◌, ◌*◌, List, length, Option, Some, Result, Ok, Err, All}
use Rattle.cell_core.specs.declared.cell.Cell.{Cell}
use Rattle.cell_core.specs.declared.grid.Shape.TheVariants.{Series, Frame}
use Rattle.column_core.specs.Blocks.{CellBlock}
use Rattle.column_core.specs.cells.Text.{Text}
use Rattle.column_core.specs.cells.Fault.{FaultValue}
use Rattle.frame_store.specs.tables.Settled.{IsSettled}
use Rattle.frame_store.specs.tables.Table.{NumberedTable, Table, table_value, cell_count, column_at}
use Rattle.frame_store.specs.tables.Change.{with_column, with_values}
use Rattle.frame_store.specs.Objects.{Tables, table_at}
use Rattle.frame_select.specs.charge.Charge.{different_count}
use Rattle.frame_store.specs.Arguments.{shape_at, IsLiveObject}
use Rattle.frame_store.specs.Parts.{block_column, IsSingle, AreHeld}
use Rattle.frame_store.specs.Shown.{Refuses, spent}
use Rattle.frame_store.specs.declared.object.ObjId.{ObjId}
use Rattle.frame_store.specs.declared.fault.OpFault.{OpFault}
use Rattle.frame_store.specs.declared.fault.OpFault.TheVariants.{Refused, NoMemory}
use Rattle.frame_set.specs.Assigned.{with_places}
use Rattle.frame_set.specs.declared.changes.Change.{Change}
use Rattle.frame_set.specs.declared.changes.Change.TheVariants as change
use Rattle.frame_set.specs.declared.changes.Setting.{Setting}
use Rattle.frame_set.specs.declared.changes.Setting.TheVariants as setting

-- the table after a change
abbrev pub changed : NumberedTable → Change → NumberedTable
changed t (change.Cells rows columns values) = with_values t rows columns values
changed t (change.Column place label block) = with_column t place (Some label) (block_column block)
changed t (change.Columns places label block) = with_places t places label (block_column block)
changed t (change.Table made) = made

-- and after a setting, which may move the column of a live Series
abbrev pub table_after : Tables → NumberedTable → Setting → NumberedTable
table_after live t (setting.Change change) = changed t change
table_after live t (setting.Move place label series) = with_column t place (Some label) (column_at (table_at live series.0).columns 0)

-- how many cells that makes: those of the columns that it makes anew, or all
abbrev pub cells_changed : NumberedTable → Change → ℕ
cells_changed t (change.Cells rows columns values) = length t.labels * different_count columns
cells_changed t (change.Column place label block) = length t.labels
cells_changed t (change.Columns places label block) = length t.labels
cells_changed t (change.Table made) = cell_count made

abbrev pub cells_after : NumberedTable → Setting → ℕ
cells_after t (setting.Change change) = cells_changed t change
cells_after t (setting.Move place label series) = 0

-- and how many columns of cells it makes, where it adds no row: several columns of one label share theirs
abbrev pub columns_changed : Change → ℕ
columns_changed (change.Cells rows columns values) = different_count columns
columns_changed (change.Column place label block) = 1
columns_changed (change.Columns places label block) = 1
columns_changed (change.Table made) = 0

abbrev pub columns_after : Setting → ℕ
columns_after (setting.Change change) = columns_changed change
columns_after (setting.Move place label series) = 0

-- cells for places of the table that its columns hold, a column that fits it, and one in place of several
pub record FitsCells (t : NumberedTable) (rows columns : List ℕ) (values : List Cell) : Type 0 where
  pub rows_below : All (λ row. row < length t.labels) rows
  pub columns_below : All (λ place. place < length t.columns) columns
  pub count : length values ≡ length rows * length columns
  pub held : AreHeld t.columns columns values

pub record FitsColumn (t : NumberedTable) (place : ℕ) (block : CellBlock) : Type 0 where
  pub frame : t.shape ≡ Frame
  pub inside : place ≤ length t.columns
  pub single : IsSingle block
  pub rows : length (block_column block).cells ≡ length t.labels

pub record FitsColumns (t : NumberedTable) (places : List ℕ) (block : CellBlock) : Type 0 where
  pub frame : t.shape ≡ Frame
  pub inside : All (λ place. place < length t.columns) places
  pub single : IsSingle block
  pub rows : length (block_column block).cells ≡ length t.labels

-- what a change is of a table; one of the whole table adds rows
abbrev pub IsChangeOf : NumberedTable → Change → Type 0
IsChangeOf t (change.Cells rows columns values) = FitsCells t rows columns values
IsChangeOf t (change.Column place label block) = FitsColumn t place block
IsChangeOf t (change.Columns places label block) = FitsColumns t places block
IsChangeOf t (change.Table made) = length t.labels < length made.labels

-- the column of a live Series, which is the object that ends, fits the table
pub record FitsMove (live : Tables) (ends : Option ObjId) (t : NumberedTable) (place : ℕ) (series : ObjId) : Type 0 where
  pub is : ends ≡ Some series
  pub frame : t.shape ≡ Frame
  pub shape : shape_at live series ≡ Series
  pub rows : length (table_at live series.0).labels ≡ length t.labels
  pub inside : place ≤ length t.columns

abbrev pub IsSettingOf : Tables → Option ObjId → NumberedTable → Setting → Type 0
IsSettingOf live ends t (setting.Change change) = IsChangeOf t change
IsSettingOf live ends t (setting.Move place label series) = FitsMove live ends t place series

-- an object that ends beside the one that is set: it is live, and another one
abbrev pub MayEnd : Tables → ObjId → ObjId → Type 0
MayEnd live on id = IsLiveObject live id × (on.0 ≢ id.0)

-- the tables without an object, if there is one, that ends
abbrev pub ended : Option ObjId → Tables → Tables
ended ends tables = spent (Ok tt) ends tables

-- The first fault is answered; want of memory may come in place of any answer.
abbrev pub RefusesBy : List Text → OpFault → Result Table FaultValue → Type 0
RefusesBy texts (Refused code) meant = Refuses texts code meant
RefusesBy texts NoMemory meant = Unit {0}

-- What is answered makes the table that is meant, of texts that were given, or the first fault is answered.
abbrev pub GivesBy : {X : Type 0} → (X → NumberedTable) → List Text → Result X OpFault → Result Table FaultValue → Type 0
GivesBy table texts (Ok x) meant = (meant ≡ Ok (table_value texts (table x))) × IsSettled table_value texts (table x)
GivesBy table texts (Err fault) meant = RefusesBy texts fault meant

-- a change does, and a setting
abbrev pub ChangesBy : List Text → NumberedTable → Result Change OpFault → Result Table FaultValue → Type 0
ChangesBy texts t result meant = GivesBy (changed t) texts result meant

abbrev pub SetsBy : Tables → List Text → NumberedTable → Result Setting OpFault → Result Table FaultValue → Type 0
SetsBy live texts t result meant = GivesBy (table_after live t) texts result meant
