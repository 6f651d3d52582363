-- Frames under joined labels of columns, with texts by number.
use Rattle.std.specs.Prelude.{ℕ, pos, List, [], ◌∷◌, length, map, Option, Some, None}
use Rattle.cell_core.specs.declared.cell.Cell.TheVariants.{Na}
use Rattle.cell_core.specs.declared.cell.Label.{Label}
use Rattle.cell_core.specs.declared.cell.Label.TheVariants.{Int}
use Rattle.multi_index.specs.Axes.{AxisValue, nameless_axis}
use Rattle.frame_store.specs.tables.Table.{NumberedTable, column_at}
use Rattle.frame_parts.specs.form.Infix.{tuple_heading, columns_or_missing}
use Rattle.frame_store.specs.Parts.{HeadingList, table_with, axis_of}
use Rattle.frame_ops.specs.Pairs.{repeated}

-- the label of a column as a tuple: 0 where it has none, as only a Series can
abbrev pub heading_tuple : Option Label → List Label
heading_tuple None = Int (pos 0) ∷ []
heading_tuple (Some l) = l ∷ []

-- the labels of the columns as an axis
abbrev pub labels_axis : NumberedTable → AxisValue
labels_axis t = nameless_axis (map heading_tuple t.headings) 1

-- the headings that tuples are
abbrev pub headings_of_keys : Option Label → List (List Label) → HeadingList
headings_of_keys name keys = record { columns_name = name; labels = map tuple_heading keys }

-- a frame under joined labels of columns, which it has at these places, and the other side at those
abbrev pub widened : NumberedTable → NumberedTable → List (List Label) → List (Option ℕ) → List (Option ℕ) → NumberedTable
widened own other keys places opposites =
    table_with own.shape (axis_of own) (headings_of_keys own.columns_name keys) (columns_or_missing Na (length own.labels) own.columns other.columns places opposites)

-- a Series in each row of a frame, as a frame whose columns it labels
abbrev pub spread_table : NumberedTable → NumberedTable → NumberedTable
spread_table f s =
    table_with f.shape (axis_of f) (headings_of_keys f.columns_name s.labels) (map (repeated (column_at s.columns 0).kind (length f.labels)) (column_at s.columns 0).cells)
