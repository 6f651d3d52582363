-- Rows that are spread over columns.
use Rattle.std.specs.Prelude.{◌≡◌, ◌<◌, ◌≤◌, ℕ, ◌*◌, List, map, length, Option, Some, All}
use Rattle.std.specs.List.{range_with_len}
use Rattle.column_core.specs.cells.Text.{Text}
use Rattle.column_core.specs.cells.Column.{taken}
use Rattle.cell_core.specs.declared.cell.Cell.{Cell}
use Rattle.cell_core.specs.declared.cell.Cell.TheVariants.{Na}
use Rattle.cell_core.specs.declared.cell.Label.{Label}
use Rattle.column_core.specs.Columns.{CellColumn}
use Rattle.reshape.specs.shapes.Reshape.{SpreadOf}
use Rattle.reshape.specs.shapes.Unstacking.{place_at}
use Rattle.multi_index.specs.Axes.{HaveLevels}
use Rattle.reshape.specs.row_keys.Keys.{label_in}
use Rattle.frame_store.specs.tables.Table.{ColumnOf}
use Rattle.frame_store.specs.tables.Settled.{IsSettled}
use Rattle.frame_store.specs.Shown.{labels_value}

-- the labels of the columns, and the rows that the cells of a column come from
abbrev pub spread_labels : SpreadOf Label → List (Option Label)
spread_labels s = map (λ tuple. Some (label_in 0 tuple)) s.columns

abbrev pub places_of_column : SpreadOf Label → ℕ → List (Option ℕ)
places_of_column s column = map (λ row. place_at s.places (length s.columns) row column) (range_with_len 0 (length s.rows))

-- a column for each label
abbrev pub spread_columns : SpreadOf Label → CellColumn → List (ColumnOf Cell)
spread_columns s c = map (λ column. record { kind = c.kind; cells = taken Na c.cells (places_of_column s column) }) (range_with_len 0 (length s.columns))

-- a place for each row and column, each a row of so many; one to three labels in the keys of the rows and one in those
-- of the columns
pub record IsSpreadOf (rows levels : ℕ) (s : SpreadOf Label) : Type 0 where
  pub count : length s.places ≡ length s.rows * length s.columns
  pub below : All (λ place. (row : ℕ) → place ≡ Some row → row < rows) s.places
  pub keys : HaveLevels levels s.rows
  pub labels : HaveLevels 1 s.columns

-- the rows that are spread: as many keys as labels, of one to three labels and of one, whose texts were given
pub record AreEntries (texts : List Text) (rows levels : ℕ) (rest spread : List (List Label)) : Type 0 where
  pub some : 1 ≤ levels
  pub few : levels ≤ 3
  pub keys : HaveLevels levels rest
  pub labels : HaveLevels 1 spread
  pub count : length rest ≡ rows
  pub count' : length spread ≡ rows
  pub given : IsSettled labels_value texts rest
  pub given' : IsSettled labels_value texts spread
