-- What the constructors make of scalars.
use Rattle.std.specs.Prelude.{ℕ, List, [], ◌∷◌, map, length, Option, Some, None, Result, Ok, Err, if◌then◌else◌}
use Rattle.cell_core.specs.declared.cell.Kind.{Kind}
use Rattle.column_core.specs.cells.Text.{Text}
use Rattle.column_core.specs.cells.Cell.{CellValue, LabelValue}
use Rattle.column_core.specs.cells.Fault.{FaultValue, limit, then_value}
use Rattle.multi_index.specs.Axes.{AxisValue}
use Rattle.frame_store.specs.tables.Table.{ColumnOf}
use Rattle.frame_store.specs.tables.Value.{Entry, Given, table}
use Rattle.frame_parts.specs.form.Finish.{within_limits, limited, default_labels, try_all}
use Rattle.frame_parts.specs.form.Set.{list_column, of_length}
use Rattle.frame_parts.specs.form.Make.{cast_to, few_levels, series_table, frame_table}
use Rattle.frame_store.specs.Shown.{labels_value}
use Rattle.frame_make.specs.Pairs.{scalars_in, listed_column}

-- the labels of an axis
abbrev pub axis_labels : List Text → AxisValue → List (List LabelValue)
axis_labels texts axis = labels_value texts axis.tuples

-- labels for so many rows, of a table that isn't beyond the limits
abbrev pub labels_within : ℕ → ℕ → List (List LabelValue) → Result (List (List LabelValue)) FaultValue
labels_within rows columns labels = if within_limits rows columns then Ok labels else Err limit

abbrev pub listed_labels : ℕ → ℕ → List (List LabelValue) → Result (List (List LabelValue)) FaultValue
listed_labels rows columns labels = of_length rows (length labels) (few_levels labels (labels_within rows columns labels))

-- the labels of an index; 0, 1 and so on where there is no index
abbrev pub index_labels : ℕ → ℕ → Option (List (List LabelValue)) → Result (List (List LabelValue)) FaultValue
index_labels rows columns None = labels_within rows columns (default_labels rows)
index_labels rows columns (Some labels) = listed_labels rows columns labels

-- the labels of an index, as many as there are; none where there is no index
abbrev pub index_alone : Option (List (List LabelValue)) → List (List LabelValue)
index_alone None = []
index_alone (Some labels) = labels

abbrev pub free_labels : Option (List (List LabelValue)) → Result (List (List LabelValue)) FaultValue
free_labels index = few_levels (index_alone index) (labels_within (length (index_alone index)) 0 (index_alone index))

-- goes on with the labels of the rows
abbrev pub indexed : ℕ → Option (List (List LabelValue)) → (List (List LabelValue) → Result Entry FaultValue) → Result Entry FaultValue
indexed rows None go = go (default_labels rows)
indexed rows (Some labels) go = of_length rows (length labels) (few_levels labels (go labels))

-- the Series of these cells
abbrev pub series_with : List CellValue → Option (List (List LabelValue)) → Option LabelValue → Option Kind → Result Entry FaultValue
series_with cells index name kind =
    then_value (list_column cells) (λ c. then_value (cast_to kind c) (λ c. indexed (length c.cells) index (λ labels. limited (series_table name labels c))))

-- the number of rows, which each of these columns must have
abbrev pub same_rows : ℕ → List (ColumnOf CellValue) → Result (Option ℕ) FaultValue
same_rows rows [] = Ok (Some rows)
same_rows rows (c ∷ cs) = of_length rows (length c.cells) (same_rows rows cs)

-- the number of rows that all columns have, if there are columns
abbrev pub common_rows : List (ColumnOf CellValue) → Result (Option ℕ) FaultValue
common_rows [] = Ok None
common_rows (c ∷ cs) = same_rows (length c.cells) cs

-- labels for the rows of so many columns
abbrev pub labels_for : Option ℕ → ℕ → Option (List (List LabelValue)) → Result (List (List LabelValue)) FaultValue
labels_for None columns index = free_labels index
labels_for (Some rows) columns index = index_labels rows columns index

abbrev pub frame_labels : List (ColumnOf CellValue) → Option (List (List LabelValue)) → Result (List (List LabelValue)) FaultValue
frame_labels columns index = then_value (common_rows columns) (λ rows. labels_for rows (length columns) index)

-- the frame of columns of these lists
abbrev pub frame_with : List LabelValue → List (Option (List CellValue)) → Option (List (List LabelValue)) → Result Entry FaultValue
frame_with headings lists index =
    then_value (try_all listed_column lists) (λ columns. then_value (frame_labels columns index) (λ labels. Ok (table (frame_table labels headings columns))))

-- the frame of a dict's pairs
abbrev pub frame_from : List (LabelValue × Given) → Option (List (List LabelValue)) → Result Entry FaultValue
frame_from pairs index = frame_with (map (λ p. p.0) pairs) (map (λ p. scalars_in p.1) pairs) index

-- what is seen of a number of rows
abbrev pub rows_seen : List Text → Option ℕ → Option ℕ
rows_seen texts rows = rows
