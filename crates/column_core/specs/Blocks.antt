-- A block as contracts see it: columns of one kind and one length.
use Rattle.std.specs.Prelude.{◌≡◌, ℕ, ◌*◌, ◌<◌, ◌^◌, List, [], ◌∷◌, map, length, slice_index_or, slice_set, All}
use Rattle.cell_core.specs.declared.cell.Kind.{Kind}
use Rattle.cell_core.specs.declared.cell.Kind.TheVariants.{Int64}
use Rattle.cell_core.specs.declared.cell.Cell.{Cell}
use Rattle.column_core.specs.Columns.{CellColumn}
use Rattle.column_core.specs.declared.blocks.Parts.{Parts}
use Rattle.column_core.specs.declared.blocks.Parts.TheVariants.{One, Many}

-- each column has so many rows, also where there is no column
pub record CellBlock : Type 0 where
  pub kind : Kind
  pub rows : ℕ
  pub columns : List (List Cell)

-- columns of one kind and so many rows side by side
abbrev pub block_with : Kind → ℕ → List CellColumn → CellBlock
block_with kind rows columns = record { kind = kind; rows = rows; columns = map (λ c. c.cells) columns }

-- each column of a block with its kind
abbrev pub columns_in : CellBlock → List CellColumn
columns_in b = map (λ cells. record { kind = b.kind; cells = cells }) b.columns

-- the column at a place, and the columns where it has another cell at a row
abbrev pub column_in : List CellColumn → ℕ → CellColumn
column_in columns column = slice_index_or columns column record { kind = Int64; cells = [] }

abbrev pub put_in : List CellColumn → ℕ → ℕ → Cell → List CellColumn
put_in columns column row x = slice_set columns column record { kind = (column_in columns column).kind; cells = slice_set (column_in columns column).cells row x }

-- the column has the kind, and so many rows
pub record IsColumnOf (kind : Kind) (rows : ℕ) (column : CellColumn) : Type 0 where
  pub alike : column.kind ≡ kind
  pub long : length column.cells ≡ rows

-- the columns fit a block of the kind and of so many rows, and their cells are few enough to count
pub record FitBlock (kind : Kind) (rows : ℕ) (columns : List CellColumn) : Type 0 where
  pub each : All (IsColumnOf kind rows) columns
  pub few : length columns * rows < 2 ^ 64

-- the columns of which a block is made, and their kind
abbrev pub kind_of : Parts → Kind
kind_of (One column) = column.kind
kind_of (Many kind columns) = kind

abbrev pub columns_of : Parts → List CellColumn
columns_of (One column) = column ∷ []
columns_of (Many kind columns) = columns.items

abbrev pub block_of : Parts → ℕ → CellBlock
block_of parts rows = block_with (kind_of parts) rows (columns_of parts)

abbrev pub FitParts : Parts → ℕ → Type 0
FitParts parts rows = FitBlock (kind_of parts) rows (columns_of parts)
