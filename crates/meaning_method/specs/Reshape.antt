-- Methods that make of labels of columns labels of rows, or the other way round.
use Rattle.std.specs.Prelude.{ℕ, pos, ◌+◌, ◌*◌, true, false, List, [], ◌∷◌, ◌++◌, map, length, remove, replicate, slice_index_or, unwrap_or, codes, Option, Some, None, option_and_then, Result, Ok, Err}
use Rattle.std.specs.List.{flat_map, range_with_len}
use Rattle.meaning_call.specs.cell_core.declared.cell.Kind.TheVariants.{Text as string}
use Rattle.meaning_call.specs.cell_core.declared.grid.Shape.TheVariants.{Series, Frame}
use Rattle.meaning_call.specs.cells.Cell.{CellValue, na_cell, LabelValue, na, int, text}
use Rattle.meaning_call.specs.cells.Column.{ColumnValue, tabulate, taken}
use Rattle.meaning_call.specs.cells.Operator.{cell_label}
use Rattle.meaning_call.specs.cells.Fault.{FaultValue, wrong_kind, bad_value, entry, limit, then_value}
use Rattle.meaning_shapes.specs.Reshape as reshape
use Rattle.meaning_shapes.specs.Reshape.{SpreadOf, UnstackRefusal, duplicate_entry, too_large, column_by_row}
use Rattle.meaning_shapes.specs.Unstacking.{place_at}
use Rattle.meaning_select.specs.tables.Table.{ColumnOf, Table, column_at}
use Rattle.meaning_select.specs.tables.Value.{Entry, Given, nothing, scalar_in}
use Rattle.meaning_call.specs.declared.ReshapeMethod.{ReshapeMethod}
use Rattle.meaning_call.specs.declared.ReshapeMethod.TheVariants as method
use Rattle.meaning_call.specs.Binding.{text_in}
use Rattle.meaning_call.specs.form.Finish.{limited, default_labels, value_of_column, column_of_value, column_labels}
use Rattle.meaning_call.specs.form.Infix.{same_tuple, tuple_before}
use Rattle.meaning_call.specs.form.Make.{on}
use Rattle.meaning_call.specs.form.Select.{argument_column, argument_columns, heading_at}
use Rattle.meaning_call.specs.form.Set.{list_column}
use Rattle.meaning_select.specs.Select.{as_series, row_name}
use Rattle.meaning_group.specs.Reductions.{GroupReduction, reduce_groups}
use Rattle.meaning_method.specs.Concat.{columns_below}
use Rattle.meaning_method.specs.Groups.{Grouping, row_keys, groups_of, each_of, under_keys, headings_of, keys_in, reduction_named}
use Rattle.meaning_method.specs.Levels.{on_levels, label_cell, level_of, of_several}
use Rattle.meaning_method.specs.Rows.{labels_in, places_besides, without_missing}

-- `stack`: the cells of each row, one after the other, under its labels and the column's
abbrev pub stacked_labels : Table → List (List LabelValue)
stacked_labels t = flat_map (λ labels. map (λ column. labels ++ column) (column_labels t)) t.labels

-- the labels of the columns become the last level, which has the columns' name
abbrev pub stacked : Table → ColumnValue → Table
stacked t cells =
    record {
      shape = Series;
      columns_name = None;
      level_names = t.level_names ++ t.columns_name ∷ [];
      labels = stacked_labels t;
      headings = None ∷ [];
      columns = column_of_value cells ∷ [];
    }

-- columns of one kind; the rows have a level more than before
abbrev pub stack_result : Table → Result Entry FaultValue
stack_result t = on (column_by_row (map value_of_column t.columns)) (λ cells. on_levels (length t.level_names + 1) (limited (stacked t cells)))

-- `unstack`: the labels of a level become columns

-- for each row its labels on the other levels, and its label on the level
abbrev pub labels_besides : Table → ℕ → List (List LabelValue)
labels_besides t level = map (λ labels. remove labels level) t.labels

abbrev pub labels_on : Table → ℕ → List (List LabelValue)
labels_on t level = map (λ labels. slice_index_or labels level na ∷ []) t.labels

-- why labels don't become columns, as the fault of a form
abbrev pub met_labels : {A : Type 0} → Result A (UnstackRefusal (List LabelValue)) → Result A FaultValue
met_labels (Ok a) = Ok a
met_labels (Err (duplicate_entry labels)) = Err (bad_value (entry labels))
met_labels (Err too_large) = Err limit

-- the rows that the cells of a column come from
abbrev pub places_of_column : SpreadOf LabelValue → ℕ → List (Option ℕ)
places_of_column s column = tabulate (length s.rows) (λ row. place_at s.places (length s.columns) row column)

abbrev pub spread_column : ColumnOf CellValue → SpreadOf LabelValue → ℕ → ColumnOf CellValue
spread_column c s column = record { kind = c.kind; cells = taken na_cell c.cells (places_of_column s column) }

-- a column for each label; a cell is missing where no row has the labels
abbrev pub spread_frame : List (Option LabelValue) → Option LabelValue → ColumnOf CellValue → SpreadOf LabelValue → Table
spread_frame names columns_name c s =
    record {
      shape = Frame;
      columns_name = columns_name;
      level_names = names;
      labels = s.rows;
      headings = map row_name s.columns;
      columns = map (spread_column c s) (range_with_len 0 (length s.columns));
    }

-- the cells of rows that have these labels in the frame and of its columns: two rows with the same ones are refused
abbrev pub spread_result : List (List LabelValue) → List (List LabelValue) → List (Option LabelValue) → Option LabelValue → ColumnOf CellValue → Result Entry FaultValue
spread_result rest labels names columns_name c =
    then_value (met_labels (reshape.unstacked same_tuple tuple_before rest labels)) (λ s. limited (spread_frame names columns_name c s))

-- the level's name is that of the columns
abbrev pub unstacked_at : Table → ℕ → Result Entry FaultValue
unstacked_at t level = spread_result (labels_besides t level) (labels_on t level) (remove t.level_names level) (slice_index_or t.level_names level None) (column_at t.columns 0)

abbrev pub unstack_result : Table → Option CellValue → Result Entry FaultValue
unstack_result t level = of_several t (then_value (level_of t level) (unstacked_at t))

-- `pivot`: the cells of a column under those of others

-- the columns that are the labels of rows, the one whose cells are the labels of columns, and the one whose cells are shown
pub record Pivoted : Type 0 where
  pub index : List ℕ
  pub columns : ℕ
  pub values : ℕ

-- the place of the column of the label that an argument is
abbrev pub place_in : Table → Given → Result ℕ FaultValue
place_in t g = on (scalar_in g) (λ c. argument_column t (cell_label c))

-- the labels are looked up in this order; of the index there is one at least
abbrev pub pivoted_in : Table → Given → Given → Given → Result Pivoted FaultValue
pivoted_in t index columns values =
    then_value (keys_in t false index) (λ places. then_value (place_in t columns) (λ spread. then_value (place_in t values) (λ place. Ok record { index = places; columns = spread; values = place })))

-- all columns that are labels
abbrev pub label_places : Pivoted → List ℕ
label_places p = p.index ++ p.columns ∷ []

-- the cells of a column, as a Series under the cells of others
abbrev pub under_cells : Table → List ℕ → ℕ → Table
under_cells t keys place =
    record {
      shape = Series;
      columns_name = None;
      level_names = headings_of t keys;
      labels = row_keys t keys;
      headings = heading_at t place ∷ [];
      columns = column_at t.columns place ∷ [];
    }

-- the Series under these labels, whose last level becomes columns; it has four levels at most
abbrev pub pivoted : Pivoted → Table → Result Entry FaultValue
pivoted p s = on_levels (length (label_places p)) (unstacked_at s (length p.index))

abbrev pub pivot_of : Table → Pivoted → Result Entry FaultValue
pivot_of t p = pivoted p (under_cells t (label_places p) p.values)

abbrev pub pivot_result : Table → Given → Given → Given → Result Entry FaultValue
pivot_result t columns index values = then_value (pivoted_in t index columns values) (pivot_of t)

-- `pivot_table`: what is made of the groups with the same labels, without missing cells

-- groups by the cells of these columns, in order, none of them missing
abbrev pub groups_by : List ℕ → Grouping
groups_by keys = record { keys = keys; sorted = true; dropna = true; as_index = true }

-- what a reduction makes of the groups, as a Series under their keys
abbrev pub group_series : Table → List ℕ → ℕ → GroupReduction → Result Table FaultValue
group_series t keys place op =
    then_value (each_of t (reduce_groups op (groups_of t (groups_by keys))) (place ∷ []))
    (λ columns. Ok (as_series (under_keys t (groups_by keys) (headings_of t (place ∷ [])) columns)))

-- the same without missing cells
abbrev pub answered_groups : Table → Pivoted → GroupReduction → Result Table FaultValue
answered_groups t p op = then_value (group_series t (label_places p) p.values op) (λ s. Ok (without_missing s))

abbrev pub pivot_table_of : Table → GroupReduction → Pivoted → Result Entry FaultValue
pivot_table_of t op p = then_value (answered_groups t p op) (pivoted p)

abbrev pub pivot_table_result : Table → Given → Given → Given → GroupReduction → Result Entry FaultValue
pivot_table_result t values index columns op = then_value (pivoted_in t index columns values) (pivot_table_of t op)

-- `melt`: a row for each value column and each row

-- the columns that stay, and those whose cells become rows
pub record Melted : Type 0 where
  pub kept : List ℕ
  pub values : List ℕ

-- no columns stay where none are named, and all others become rows
abbrev pub kept_in : Table → Given → Result (List ℕ) FaultValue
kept_in t nothing = Ok []
kept_in t g = argument_columns t (labels_in g)

abbrev pub values_named : Table → List ℕ → Given → Result (List ℕ) FaultValue
values_named t kept nothing = Ok (places_besides t kept)
values_named t kept g = argument_columns t (labels_in g)

abbrev pub melted_in : Table → Given → Given → Result Melted FaultValue
melted_in t ids values = then_value (kept_in t ids) (λ kept. then_value (values_named t kept values) (λ places. Ok record { kept = kept; values = places }))

-- the label of a column as a cell; 0 would stand for a label that is missing, which no frame has
abbrev pub heading_cell : Table → ℕ → CellValue
heading_cell t place = label_cell (unwrap_or (heading_at t place) (int (pos 0)))

-- a column that stays, once for each value column
abbrev pub kept_column : Table → List ℕ → ℕ → ColumnOf CellValue
kept_column t values place = record { kind = (column_at t.columns place).kind; cells = flat_map (λ value. (column_at t.columns place).cells) values }

-- the labels of the value columns, which are of one kind: texts where there is no value column
abbrev pub value_labels : Table → List ℕ → Result (ColumnOf CellValue) FaultValue
value_labels t [] = Ok record { kind = string; cells = [] }
value_labels t values = list_column (map (heading_cell t) values)

-- each label once for each row
abbrev pub label_column : Table → ColumnOf CellValue → ColumnOf CellValue
label_column t labels = record { kind = labels.kind; cells = flat_map (replicate (length t.labels)) labels.cells }

-- the labels stand under the name of the columns
abbrev pub label_heading : Table → LabelValue
label_heading t = unwrap_or t.columns_name (text (codes "variable"))

abbrev pub melted_headings : Table → List ℕ → List (Option LabelValue)
melted_headings t kept = headings_of t kept ++ Some (label_heading t) ∷ Some (text (codes "value")) ∷ []

-- the columns that stay, the labels, and the cells, on numbered rows
abbrev pub melted : Table → Melted → ColumnOf CellValue → ColumnOf CellValue → Table
melted t m labels cells =
    record {
      shape = Frame;
      columns_name = None;
      level_names = None ∷ [];
      labels = default_labels (length m.values * length t.labels);
      headings = melted_headings t m.kept;
      columns = map (kept_column t m.values) m.kept ++ label_column t labels ∷ cells ∷ [];
    }

abbrev pub melt_of : Table → Melted → Result Entry FaultValue
melt_of t m =
    then_value (value_labels t m.values) (λ labels. then_value (columns_below (map (column_at t.columns) m.values)) (λ cells. limited (melted t m labels cells)))

abbrev pub melt_result : Table → Given → Given → Result Entry FaultValue
melt_result t ids values = then_value (melted_in t ids values) (melt_of t)

-- what each method answers for its arguments
abbrev pub reshaped : ReshapeMethod → List Given → Table → Result Entry FaultValue
reshaped method.Stack gs t = stack_result t
reshaped method.Unstack (level ∷ []) t = unstack_result t (scalar_in level)
reshaped method.Pivot (columns ∷ index ∷ values ∷ []) t = pivot_result t columns index values
reshaped method.PivotTable (values ∷ index ∷ columns ∷ aggfunc ∷ []) t = on (option_and_then reduction_named (text_in aggfunc)) (pivot_table_result t values index columns)
reshaped method.Melt (ids ∷ values ∷ []) t = melt_result t ids values
-- no other number of arguments is bound
reshaped m gs t = Err wrong_kind
