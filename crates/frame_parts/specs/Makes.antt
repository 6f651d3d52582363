-- What a part of a form makes.
use Rattle.std.specs.Prelude.{◌≡◌, ℕ, true, List, length, map, All, ⊤, Result, Ok, Err, if◌then◌else◌}
use Rattle.std.specs.List.{list_all}
use Rattle.cell_core.specs.declared.cell.Cell.{Cell}
use Rattle.cell_core.specs.declared.cell.Kind.{Kind}
use Rattle.column_core.specs.cells.Text.{Text}
use Rattle.column_core.specs.cells.Cell.{CellValue, AreGiven, datum, holds}
use Rattle.column_core.specs.cells.Fault.{FaultValue, wrong_kind}
use Rattle.column_core.specs.Blocks.{CellBlock}
use Rattle.column_core.specs.Columns.{CellColumn}
use Rattle.frame_store.specs.tables.Table.{ColumnOf, column_value}
use Rattle.frame_store.specs.tables.Value.{Entry}
use Rattle.frame_store.specs.Shown.{cells_value, columns_value, Refuses}
use Rattle.frame_store.specs.Parts.{block_column, IsSingle, HaveRows}
use Rattle.frame_store.specs.declared.fault.OpFault.{OpFault}
use Rattle.frame_store.specs.declared.fault.OpFault.TheVariants.{Refused, NoMemory}

-- What is made is what is meant, as it is seen through the texts, or the first fault is. Want of memory may come in
-- place of any answer.
abbrev pub MakesBy : {X Y : Type 0} → (List Text → X → Y) → List Text → Result X OpFault → Result Y FaultValue → Type 0
MakesBy view texts (Ok made) meant = meant ≡ Ok (view texts made)
MakesBy view texts (Err (Refused code)) meant = Refuses texts code meant
MakesBy view texts (Err NoMemory) meant = Unit {0}

-- a test that is passed leaves what is meant to the rest, or that is its refusal
abbrev pub Passes : List Text → Result ⊤ OpFault → Result Entry FaultValue → Result Entry FaultValue → Type 0
Passes texts (Ok done) rest meant = meant ≡ rest
Passes texts (Err (Refused code)) rest meant = Refuses texts code meant
Passes texts (Err NoMemory) rest meant = Unit {0}

-- a block's one column, and the columns of such blocks
abbrev pub block_value : List Text → CellBlock → ColumnOf CellValue
block_value texts block = column_value texts (block_column block)

abbrev pub blocks_value : List Text → List CellBlock → List (ColumnOf CellValue)
blocks_value texts blocks = columns_value texts (map block_column blocks)

-- so many blocks of one column each and so many rows, whose texts were given
pub record AreColumns (texts : List Text) (rows columns : ℕ) (blocks : List CellBlock) : Type 0 where
  pub single : All IsSingle blocks
  pub count : length blocks ≡ columns
  pub filled : HaveRows rows (map block_column blocks)
  pub given : All (λ c. AreGiven texts c.cells) (map block_column blocks)

-- a column of a kernel with texts
abbrev pub column_seen : List Text → CellColumn → ColumnOf CellValue
column_seen texts c = record { kind = c.kind; cells = map (datum texts) c.cells }

-- the column of these cells, of a kind
abbrev pub column_listed : List Cell → List Text → Kind → ColumnOf CellValue
column_listed cells texts kind = record { kind = kind; cells = cells_value texts cells }

-- the column of these cells, all of which the kind must hold
abbrev pub held_column : Kind → List CellValue → Result (ColumnOf CellValue) FaultValue
held_column kind cells = if list_all (holds kind) cells then Ok record { kind = kind; cells = cells } else Err wrong_kind

-- a column of the kind may have these cells
abbrev pub IsKindOf : List Cell → Kind → Type 0
IsKindOf cells kind = (texts : List Text) → list_all (holds kind) (cells_value texts cells) ≡ true
