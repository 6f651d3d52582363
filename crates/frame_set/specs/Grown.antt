-- Tables that get a row or a column of missing cells.
use Rattle.std.specs.Prelude.{ℕ, List, [], ◌∷◌, ◌++◌, length, map, replicate, slice_index_or, Option, Some, None}
use Rattle.cell_core.specs.declared.cell.Cell.{Cell}
use Rattle.cell_core.specs.declared.cell.Cell.TheVariants.{Na}
use Rattle.cell_core.specs.declared.cell.Kind.{Kind}
use Rattle.cell_core.specs.declared.cell.Label.{Label}
use Rattle.frame_store.specs.tables.Table.{ColumnOf, NumberedTable, column_at}
use Rattle.frame_store.specs.tables.Change.{with_column, with_values_from}
use Rattle.multi_index.specs.Axes.{AxisValue}
use Rattle.frame_set.specs.declared.targets.Reached.{Reached}
use Rattle.frame_set.specs.declared.targets.Target.{Target}

abbrev pub axis_with : NumberedTable → Label → AxisValue
axis_with t label = record { tuples = t.labels ++ (label ∷ []) ∷ []; names = t.level_names }

abbrev pub with_gap : ColumnOf Cell → ColumnOf Cell
with_gap c = record { kind = c.kind; cells = c.cells ++ Na ∷ [] }

abbrev pub columns_with_gap : NumberedTable → List (ColumnOf Cell)
columns_with_gap t = map with_gap t.columns

abbrev pub with_row : NumberedTable → Label → NumberedTable
with_row t label = record t { labels = t.labels ++ (label ∷ []) ∷ []; columns = columns_with_gap t }

-- a column of missing cells, and one with these values at these rows
abbrev pub missing_column : Kind → ℕ → ColumnOf Cell
missing_column kind count = record { kind = kind; cells = replicate count Na }

abbrev pub new_column : Kind → ℕ → List ℕ → List Cell → ColumnOf Cell
new_column kind count rows values = column_at (with_values_from 0 (missing_column kind count ∷ []) rows (0 ∷ []) values) 0

-- the table with the row and the column that a setting adds
abbrev pub row_added : NumberedTable → Option Label → NumberedTable
row_added t None = t
row_added t (Some label) = with_row t label

-- the tuples of the rows that are reached
abbrev pub reached_tuples : NumberedTable → Reached → List (List Label)
reached_tuples t rows = map (λ row. slice_index_or (row_added t rows.added).labels row []) rows.places

abbrev pub column_added : NumberedTable → Option Label → Kind → NumberedTable
column_added t None kind = t
column_added t (Some label) kind = with_column t (length t.columns) (Some label) (missing_column kind (length t.labels))

abbrev pub grown_table : NumberedTable → Target → Kind → NumberedTable
grown_table t target kind = column_added (row_added t target.rows.added) target.columns.added kind
