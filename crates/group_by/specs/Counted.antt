-- Numbers that are counted, and columns of numbers.
use Rattle.std.specs.Prelude.{◌≡◌, ℕ, ◌+◌, ◌<◌, List, length, map, slice_index_or, Option, if◌then◌else◌}
use Rattle.cell_core.specs.declared.cell.Kind.TheVariants.{Int64}
use Rattle.column_core.specs.cells.Cell.{CellValue, datum, AreGiven}
use Rattle.column_core.specs.Columns.{CellColumn}
use Rattle.factorize.specs.group.Rows.{is_in, rows_of_group}

-- one more is counted of a group, if there is one
pub record IsCounted (group : Option ℕ) (before after : List ℕ) : Type 0 where
  pub size : length after ≡ length before
  pub each : (g : ℕ) → g < length before → slice_index_or after g 0 ≡ slice_index_or before g 0 + (if is_in g group then 1 else 0)

-- a column of numbers and NA, which are these
pub record AreNumbers (column : CellColumn) (cells : List (List ℕ) → List CellValue) : Type 0 where
  pub kind : column.kind ≡ Int64
  pub given : (texts : List (List ℕ)) → AreGiven texts column.cells
  pub values : (texts : List (List ℕ)) → map (datum texts) column.cells ≡ cells texts

-- how many rows each group has
abbrev pub HaveCounted : List (Option ℕ) → ℕ → List ℕ → Type 0
HaveCounted codes count counts = (group : ℕ) → group < count → slice_index_or counts group 0 ≡ length (rows_of_group group codes)
