-- The parts of which tables are made.
use Rattle.std.specs.Prelude.{◌≡◌, ℕ, List, [], ◌∷◌, ◌++◌, map, length, Option, IsSome}
use Rattle.cell_core.specs.declared.cell.Cell.{Cell}
use Rattle.cell_core.specs.declared.cell.Cell.TheVariants.{Na}
use Rattle.cell_core.specs.declared.cell.Label.{Label}
use Rattle.cell_core.specs.declared.grid.Rows.{Rows}
use Rattle.cell_core.specs.declared.grid.Shape.{Shape}
use Rattle.cell_core.specs.declared.grid.Shape.TheVariants.{Series, Frame}
use Rattle.column_core.specs.Blocks.{CellBlock}
use Rattle.multi_index.specs.Axes.{AxisValue}
use Rattle.meaning_tables.specs.Change.{cut_columns}
use Rattle.meaning_tables.specs.Table.{ColumnOf, NumberedTable}
-- words of the pool and of the manager, passed on to the crates above
pub use Rattle.block_pool.specs.Pools.{cells_of}
pub use Rattle.block_manager.specs.Parts.{AreBelow, AreHeld, AreRowsIn, HaveRows, IsHeld, IsSingle, block_column, single_block, table_column}

-- the headings of the columns, and the name that the columns have together
pub record HeadingList : Type 0 where
  pub columns_name : Option Label
  pub labels : List (Option Label)

-- with the heading of one more column
abbrev pub with_heading : HeadingList → Option Label → HeadingList
with_heading h heading = record h { labels = h.labels ++ heading ∷ [] }

-- these are rows, or columns, of the table
abbrev pub AreRowsOf : NumberedTable → List ℕ → Type 0
AreRowsOf t rows = AreBelow (length t.labels) rows

abbrev pub AreColumnsOf : NumberedTable → List ℕ → Type 0
AreColumnsOf t places = AreBelow (length t.columns) places

abbrev pub columns_of : List CellBlock → List (ColumnOf Cell)
columns_of blocks = map block_column blocks

-- the block's column is as long as the table
abbrev pub FitsRows : NumberedTable → CellBlock → Type 0
FitsRows t block = length (block_column block).cells ≡ length t.labels

-- the table of these parts
abbrev pub table_with : Shape → AxisValue → HeadingList → List (ColumnOf Cell) → NumberedTable
table_with shape axis headings columns =
    record {
      shape = shape;
      columns_name = headings.columns_name;
      level_names = axis.names;
      labels = axis.tuples;
      headings = headings.labels;
      columns = columns;
    }

abbrev pub table_of : Shape → AxisValue → HeadingList → List CellBlock → NumberedTable
table_of shape axis headings blocks = table_with shape axis headings (columns_of blocks)

-- the table of the blocks' columns, and behind them those of another one
abbrev pub table_behind : Shape → AxisValue → HeadingList → List CellBlock → NumberedTable → NumberedTable
table_behind shape axis headings first t = table_with shape axis headings (columns_of first ++ t.columns)

-- the table of these rows and columns of another one
abbrev pub cut_table : Shape → AxisValue → HeadingList → NumberedTable → Rows → List ℕ → NumberedTable
cut_table shape axis headings t rows places = table_with shape axis headings (cut_columns Na t.columns rows places)

-- a column that is put into a frame has a label, and one that is put into a Series takes the place of its own
pub record TakesHeading (t : NumberedTable) (place : ℕ) (heading : Option Label) : Type 0 where
  pub labelled : t.shape ≡ Frame → IsSome heading
  pub single : t.shape ≡ Series → place ≡ 0

-- what a table keeps of an axis: its tuples and its names
abbrev pub labelled : AxisValue → AxisValue
labelled axis = axis

-- the axis of a table
abbrev pub axis_of : NumberedTable → AxisValue
axis_of t = record { tuples = t.labels; names = t.level_names }

-- the headings of a table, and with another name of the columns
abbrev pub headings_with : NumberedTable → Option Label → HeadingList
headings_with t name = record { columns_name = name; labels = t.headings }

abbrev pub headings_of : NumberedTable → HeadingList
headings_of t = headings_with t t.columns_name
