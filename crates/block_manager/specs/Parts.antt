-- Columns, and blocks of one column.
use Rattle.std.specs.Prelude.{◌≡◌, ℕ, ◌<◌, ◌%◌, true, List, [], ◌∷◌, length, slice_index, slice_index_or, All}
use Rattle.cell_core.specs.declared.cell.Kind.{Kind}
use Rattle.cell_core.specs.declared.cell.Cell.{Cell}
use Rattle.cell_core.specs.declared.cell.Cell.TheVariants.{Na}
use Rattle.column_core.specs.Blocks.{CellBlock}
use Rattle.column_core.specs.Columns.{CellColumn}
use Rattle.meaning_tables.specs.cells.Cell.{holds, datum}
use Rattle.meaning_tables.specs.Table.{ColumnOf, column_at}

-- each place is below the count
abbrev pub AreBelow : ℕ → List ℕ → Type 0
AreBelow count places = All (λ place. place < count) places

-- a column of a kernel as a column of a table
abbrev pub table_column : CellColumn → ColumnOf Cell
table_column c = record { kind = c.kind; cells = c.cells }

-- the first column of a block
abbrev pub block_column : CellBlock → ColumnOf Cell
block_column b = record { kind = b.kind; cells = slice_index_or b.columns 0 [] }

-- the column as a block of one column
abbrev pub single_block : ColumnOf Cell → CellBlock
single_block c = record { kind = c.kind; rows = length c.cells; columns = c.cells ∷ [] }

-- the block has one column
abbrev pub IsSingle : CellBlock → Type 0
IsSingle b = b ≡ single_block (block_column b)

-- each column has so many cells
abbrev pub HaveRows : ℕ → List (ColumnOf Cell) → Type 0
HaveRows count columns = All (λ c. length c.cells ≡ count) columns

-- a column of the kind may have the cell
abbrev pub IsHeld : Kind → Cell → Type 0
IsHeld kind cell = (texts : List (List ℕ)) → holds kind (datum texts cell) ≡ true

-- values for the columns at these places, row by row: each may stand in its column
abbrev pub AreHeld : List (ColumnOf Cell) → List ℕ → List Cell → Type 0
AreHeld columns places values =
    (k : ℕ) → k < length values → IsHeld (column_at columns (slice_index places (k % length places))).kind (slice_index_or values k Na)

-- these are rows of each of the columns at these places
abbrev pub AreRowsIn : List (ColumnOf Cell) → List ℕ → List ℕ → Type 0
AreRowsIn columns places rows = All (λ place. AreBelow (length (column_at columns place).cells) rows) places
