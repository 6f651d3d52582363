-- The table that a grid tells by row and column, and the parts of a table by row, column and level.
use Rattle.std.specs.Prelude.{ℕ, List, [], slice_index_or, Option, None}
use Rattle.meaning_tables.specs.cell_core.Grids.{GridValue}
use Rattle.meaning_tables.specs.cells.Text.{Text}
use Rattle.meaning_tables.specs.cells.Cell.{CellValue, na_cell, LabelValue, na}
use Rattle.meaning_tables.specs.cells.Column.{tabulate}
use Rattle.meaning_tables.specs.Table.{Table, NumberedTable, column_at, table_value}

-- the whole table, in which a text is still its number
abbrev pub numbered : GridValue → NumberedTable
numbered g =
    record {
      shape = g.shape;
      columns_name = g.columns_name;
      level_names = tabulate g.levels g.level_name;
      labels = tabulate g.rows (λ row. tabulate g.levels (g.label row));
      headings = tabulate g.columns g.heading;
      columns = tabulate g.columns (λ column. record { kind = g.kind column; cells = tabulate g.rows (λ row. g.cell row column) });
    }

-- the whole table, where these are the texts by number
unfoldable pub told : List Text → GridValue → Table
told texts g = table_value texts (numbered g)

-- the label of a row at a level, and the name of a level
abbrev pub label_at : Table → ℕ → ℕ → LabelValue
label_at t row level = slice_index_or (slice_index_or t.labels row []) level na

abbrev pub level_name : Table → ℕ → Option LabelValue
level_name t level = slice_index_or t.level_names level None

-- a cell, and the heading of a column
abbrev pub cell_at : Table → ℕ → ℕ → CellValue
cell_at t row column = slice_index_or (column_at t.columns column).cells row na_cell

abbrev pub heading_at : Table → ℕ → Option LabelValue
heading_at t column = slice_index_or t.headings column None
