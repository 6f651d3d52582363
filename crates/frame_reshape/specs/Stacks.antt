-- The labels of a stacked frame.
use Rattle.std.specs.Prelude.{List, [], ◌∷◌, ◌++◌, map}
use Rattle.std.specs.List.{flat_map}
use Rattle.cell_core.specs.declared.cell.Label.{Label}
use Rattle.multi_index.specs.Axes.{AxisValue}
use Rattle.frame_store.specs.tables.Table.{NumberedTable}
use Rattle.frame_labels.specs.Labels.{column_tuple}

-- the labels of a row with those of each column, and those of all rows
abbrev pub row_with_columns : NumberedTable → List Label → List (List Label)
row_with_columns t labels = map (λ heading. labels ++ column_tuple heading) t.headings

abbrev pub stacked_tuples : NumberedTable → List (List Label)
stacked_tuples t = flat_map (row_with_columns t) t.labels

-- the levels of the rows, and that of the columns
abbrev pub stacked_axis : NumberedTable → AxisValue
stacked_axis t = record { tuples = stacked_tuples t; names = t.level_names ++ t.columns_name ∷ [] }
