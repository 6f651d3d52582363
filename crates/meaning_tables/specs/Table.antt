-- Whole tables.
use Rattle.std.specs.Prelude.{ℕ, ◌*◌, Bool, true, false, List, [], length, map, slice_index_or, Option, None}
use Rattle.std.specs.Option.{option_map}
use Rattle.meaning_cells.specs.cell_core.declared.cell.Kind.{Kind}
use Rattle.meaning_cells.specs.cell_core.declared.cell.Kind.TheVariants.{Int64, Boolean, Text as string}
use Rattle.meaning_cells.specs.cell_core.declared.cell.Cell.{Cell}
use Rattle.meaning_cells.specs.cell_core.declared.cell.Label.{Label}
use Rattle.meaning_cells.specs.cell_core.declared.grid.Shape.{Shape}
use Rattle.meaning_cells.specs.cell_core.declared.grid.Shape.TheVariants.{Series}
use Rattle.meaning_cells.specs.Cell.{CellValue, LabelValue, datum, label_datum}
use Rattle.meaning_cells.specs.Column.{tabulate}

-- a kind, and a cell for each row
pub record ColumnOf (C : Type 0) : Type 0 where
  pub kind : Kind
  pub cells : List C

-- A Series or a frame. A row has a tuple of labels, one for each level, and a cell in each column.
-- The headings are the labels of a frame's columns, or the name of a Series if it has one.
-- The cells stand column by column, since a kind belongs to a column and operators, reductions and windows go down one; `rows_of` gives whole rows.
pub record TableOf (L C : Type 0) : Type 0 where
  pub shape : Shape
  pub columns_name : Option L
  pub level_names : List (Option L)
  pub labels : List (List L)
  pub headings : List (Option L)
  pub columns : List (ColumnOf C)

-- a table in which a text is the text itself
abbrev pub Table : Type 0
Table = TableOf LabelValue CellValue

-- a table in which a text is its number in a dictionary
abbrev pub NumberedTable : Type 0
NumberedTable = TableOf Label Cell

-- whether two kinds are one
abbrev pub same_kind : Kind → Kind → Bool
same_kind Int64 Int64 = true
same_kind Boolean Boolean = true
same_kind string string = true
same_kind a b = false

-- a column without cells
abbrev pub no_column : {C : Type 0} → ColumnOf C
no_column = record { kind = Int64; cells = [] }

-- a Series without a row
abbrev pub no_table : {L C : Type 0} → TableOf L C
no_table = record { shape = Series; columns_name = None; level_names = []; labels = []; headings = []; columns = [] }

-- the column at a place
abbrev pub column_at : {C : Type 0} → List (ColumnOf C) → ℕ → ColumnOf C
column_at columns place = slice_index_or columns place no_column

-- rows times columns
abbrev pub cell_count : {L C : Type 0} → TableOf L C → ℕ
cell_count t = length t.labels * length t.columns

-- a whole row: its labels, one for each level, and its cells, one for each column
pub record RowOf (L C : Type 0) : Type 0 where
  pub labels : List L
  pub cells : List C

abbrev pub row_of : {L C : Type 0} → C → TableOf L C → ℕ → RowOf L C
row_of na t row = record { labels = slice_index_or t.labels row []; cells = map (λ c. slice_index_or c.cells row na) t.columns }

abbrev pub rows_of : {L C : Type 0} → C → TableOf L C → List (RowOf L C)
rows_of na t = tabulate (length t.labels) (row_of na t)

-- what the table holds, where these are the texts by number
abbrev pub heading_value : List (List ℕ) → Option Label → Option LabelValue
heading_value texts label = option_map (label_datum texts) label

abbrev pub tuple_value : List (List ℕ) → List Label → List LabelValue
tuple_value texts tuple = map (label_datum texts) tuple

abbrev pub column_value : List (List ℕ) → ColumnOf Cell → ColumnOf CellValue
column_value texts c = record { kind = c.kind; cells = map (datum texts) c.cells }

abbrev pub table_value : List (List ℕ) → NumberedTable → Table
table_value texts t =
    record {
      shape = t.shape;
      columns_name = heading_value texts t.columns_name;
      level_names = map (heading_value texts) t.level_names;
      labels = map (tuple_value texts) t.labels;
      headings = map (heading_value texts) t.headings;
      columns = map (column_value texts) t.columns;
    }
