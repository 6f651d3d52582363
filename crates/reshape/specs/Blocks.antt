-- Columns whose cells become one column.
use Rattle.std.specs.Prelude.{◌≡◌, ◌<◌, ℕ, ◌+◌, ◌*◌, List, [], ◌∷◌, map, length, slice_index_or, All}
use Rattle.std.specs.List.{flat_map, range_with_len}
use Rattle.cell_core.specs.declared.cell.Cell.{Cell}
use Rattle.cell_core.specs.declared.cell.Cell.TheVariants.{Na}
use Rattle.column_core.specs.Columns.{CellColumn}

-- how many rows columns of one length have
abbrev pub height_of : List CellColumn → ℕ
height_of [] = 0
height_of (column ∷ columns) = length column.cells

-- the columns have one length
abbrev pub HaveOneHeight : List CellColumn → Type 0
HaveOneHeight columns = All (λ column. length column.cells ≡ height_of columns) columns

-- the cell of each column in a row
abbrev pub row_of_cells : List CellColumn → ℕ → List Cell
row_of_cells columns row = map (λ column. slice_index_or column.cells row Na) columns

-- the cells of the first rows
abbrev pub cells_across : ℕ → List CellColumn → List Cell
cells_across rows columns = flat_map (row_of_cells columns) (range_with_len 0 rows)

-- the cell of row r in column c stands behind r whole rows and c cells
pub record AreByRow (columns : List CellColumn) (cells : List Cell) : Type 0 where
  pub count : length cells ≡ height_of columns * length columns
  pub each : (r c : ℕ) (d : CellColumn) → r < height_of columns → c < length columns
      → slice_index_or cells (r * length columns + c) Na ≡ slice_index_or (slice_index_or columns c d).cells r Na
