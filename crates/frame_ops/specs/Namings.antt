-- The headings of a table that an operator makes.
use Rattle.std.specs.Prelude.{◌≡◌, List, [], ◌∷◌}
use Rattle.cell_core.specs.declared.grid.Shape.TheVariants.{Series, Frame}
use Rattle.column_core.specs.cells.Text.{Text}
use Rattle.frame_store.specs.tables.Settled.{IsSettled}
use Rattle.frame_store.specs.tables.Table.{NumberedTable, heading_value}
use Rattle.frame_store.specs.Parts.{HeadingList, headings_of, headings_with, table_with, axis_of}
use Rattle.frame_ops.specs.declared.naming.Naming.{Naming}
use Rattle.frame_ops.specs.declared.naming.Naming.TheVariants.{Kept, Name, ColumnsName}

abbrev pub headings_by : NumberedTable → Naming → HeadingList
headings_by on Kept = headings_of on
headings_by on (Name name) = record { columns_name = on.columns_name; labels = name ∷ [] }
headings_by on (ColumnsName name) = headings_with on name

-- the table under these headings
abbrev pub named_by : NumberedTable → Naming → NumberedTable
named_by on naming = table_with on.shape (axis_of on) (headings_by on naming) on.columns

-- a Series has a name of its own, and a frame's columns may have one together
abbrev pub IsNaming : NumberedTable → Naming → Type 0
IsNaming on Kept = Unit {0}
IsNaming on (Name name) = on.shape ≡ Series
IsNaming on (ColumnsName name) = on.shape ≡ Frame

abbrev pub IsSettledNaming : List Text → Naming → Type 0
IsSettledNaming texts Kept = Unit {0}
IsSettledNaming texts (Name name) = IsSettled heading_value texts name
IsSettledNaming texts (ColumnsName name) = IsSettled heading_value texts name
