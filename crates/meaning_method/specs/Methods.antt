-- What each method answers for its arguments.
use Rattle.std.specs.Prelude.{ℤ, pos, nat_lt, Bool, true, false, not, ◌||◌, List, [], ◌∷◌, map, length, Option, Some, None, option_map, unwrap_or, Result, Ok, Err, if◌then◌else◌}
use Rattle.std.specs.Int.{int_wrap, w64}
use Rattle.std.specs.List.{list_any, list_all}
use Rattle.meaning_call.specs.cell_core.declared.cell.Kind.{Kind}
use Rattle.meaning_call.specs.cell_core.declared.cell.Kind.TheVariants.{Int64, Boolean}
use Rattle.meaning_call.specs.cell_core.declared.grid.Shape.{Shape}
use Rattle.meaning_call.specs.cell_core.declared.grid.Shape.TheVariants.{Series, Frame}
use Rattle.meaning_call.specs.cells.Cell.{CellValue, na_cell, int_cell, truth_cell, text_cell, LabelValue, int, holds}
use Rattle.meaning_call.specs.cells.Column.{ColumnFault, shifted}
use Rattle.meaning_call.specs.cells.Cast.{cast_column}
use Rattle.meaning_call.specs.cells.Operator.{cell_label}
use Rattle.meaning_call.specs.cells.Reduce as reduction
use Rattle.meaning_call.specs.cells.Reduce.{Reduction, is_present, same_cell, reduce_column, distinct_count}
use Rattle.meaning_call.specs.cells.Cumulate as cumulation
use Rattle.meaning_call.specs.cells.Cumulate.{Cumulation, cumulate_column}
use Rattle.meaning_call.specs.cells.Fault.{FaultValue, wrong_kind, bad_value, no_columns, then_value}
use Rattle.meaning_select.specs.tables.Table.{ColumnOf, Table, column_at}
use Rattle.meaning_select.specs.tables.Value.{Entry, cell, Given, nothing, scalar_in, list_in, dict_in}
use Rattle.meaning_call.specs.declared.Method.{Method}
use Rattle.meaning_call.specs.declared.Method.TheVariants as method
use Rattle.meaning_call.specs.declared.ColumnMethod.TheVariants as column_method
use Rattle.meaning_call.specs.declared.SummaryMethod.{SummaryMethod}
use Rattle.meaning_call.specs.declared.SummaryMethod.TheVariants as summary_method
use Rattle.meaning_call.specs.declared.RowMethod.TheVariants as row_method
use Rattle.meaning_call.specs.declared.LevelMethod.TheVariants as level_method
use Rattle.meaning_call.specs.declared.LabelMethod.TheVariants as label_method
use Rattle.meaning_call.specs.declared.TableMethod.TheVariants as table_method
use Rattle.meaning_call.specs.Binding.{is_scalar, same_label, whole_in, truth_in}
use Rattle.meaning_call.specs.form.Finish.{limited, value_of_column, fault_of_column, made_column, try_all, with_columns, same_kind, across_columns}
use Rattle.meaning_call.specs.form.Select.{cells_of}
use Rattle.meaning_call.specs.form.Make.{on, kind_given, pairs_in}
use Rattle.meaning_format.specs.CsvWrite.{csv_text_of}
use Rattle.meaning_method.specs.Levels.{rename_axis_result, set_index_result, renumbered, levels_reset, droplevel_result, swaplevel_result}
use Rattle.meaning_method.specs.Reindex.{reindex_result}
use Rattle.meaning_method.specs.Section.{xs_result}
use Rattle.meaning_method.specs.Rows.{all_places, head_result, tail_result, dropna_result, duplicated_result, sort_values_result, sort_by_result, sorted_result, drop_result}

-- each column by itself, or the first fault
abbrev pub each_column : (ColumnOf CellValue → Result (ColumnOf CellValue) FaultValue) → Table → Result Entry FaultValue
each_column f t = then_value (try_all f t.columns) (λ columns. limited (with_columns t columns))

-- the cells of a column by themselves
abbrev pub mapped : Kind → (CellValue → CellValue) → ColumnOf CellValue → Result (ColumnOf CellValue) FaultValue
mapped kind f c = Ok record { kind = kind; cells = map f c.cells }

abbrev pub missing_mark : CellValue → CellValue
missing_mark c = truth_cell (not (is_present c))

abbrev pub present_mark : CellValue → CellValue
present_mark c = truth_cell (is_present c)

-- a scalar in place of NA
abbrev pub filled : CellValue → CellValue → CellValue
filled value na_cell = value
filled value c = c

-- every column's kind is tested, also where nothing is missing
abbrev pub filled_column : CellValue → ColumnOf CellValue → Result (ColumnOf CellValue) FaultValue
filled_column value c = if holds c.kind value then mapped c.kind (filled value) c else Err wrong_kind

-- the cell is in the list: NA is where the list has NA
abbrev pub is_in : List CellValue → CellValue → CellValue
is_in values c = truth_cell (list_any (same_cell c) values)

abbrev pub shifted_column : ℤ → ColumnOf CellValue → Result (ColumnOf CellValue) FaultValue
shifted_column periods c = Ok record { kind = c.kind; cells = shifted na_cell c.cells periods }

abbrev pub cast_as : Kind → ColumnOf CellValue → Result (ColumnOf CellValue) FaultValue
cast_as kind c = made_column (cast_column kind (value_of_column c))

abbrev pub cumulated : Cumulation → ColumnOf CellValue → Result (ColumnOf CellValue) FaultValue
cumulated op c = made_column (cumulate_column op (value_of_column c))

-- what is made of all cells of a column; numbers of cells wrap at 64 bits, as sums do
pub data Summary : Type 0 where
  reduced : Reduction → Summary
  distinct : Summary

abbrev pub summary_of_method : SummaryMethod → Summary
summary_of_method summary_method.Sum = reduced reduction.sum
summary_of_method summary_method.Min = reduced reduction.min
summary_of_method summary_method.Max = reduced reduction.max
summary_of_method summary_method.Any = reduced reduction.any
summary_of_method summary_method.All = reduced reduction.all
summary_of_method summary_method.Count = reduced reduction.count
summary_of_method summary_method.Nunique = distinct

abbrev pub made_cell : Result CellValue ColumnFault → Result CellValue FaultValue
made_cell (Ok c) = Ok c
made_cell (Err fault) = Err (fault_of_column fault)

abbrev pub summary_cell : Summary → ColumnOf CellValue → Result CellValue FaultValue
summary_cell (reduced op) c = made_cell (reduce_column op (value_of_column c))
summary_cell distinct c = Ok (int_cell (int_wrap w64 (pos (distinct_count c.cells))))

-- the kind of a summary of columns of the kind
abbrev pub summary_kind : Summary → Kind → Kind
summary_kind (reduced reduction.sum) kind = Int64
summary_kind (reduced reduction.min) kind = kind
summary_kind (reduced reduction.max) kind = kind
summary_kind (reduced reduction.any) kind = Boolean
summary_kind (reduced reduction.all) kind = Boolean
summary_kind (reduced reduction.count) kind = Int64
summary_kind distinct kind = Int64

-- the summaries' kind: whole numbers where there is no column
abbrev pub kind_for : Summary → List (ColumnOf CellValue) → Kind
kind_for op [] = summary_kind op Int64
kind_for op (c ∷ cs) = summary_kind op c.kind

-- the summary of a column, which must be of the kind
abbrev pub summary_as : Summary → Kind → ColumnOf CellValue → Result CellValue FaultValue
summary_as op kind c = if same_kind (summary_kind op c.kind) kind then summary_cell op c else Err wrong_kind

-- a Series gives a scalar; a frame gives a Series, whose cells must be of one kind
abbrev pub summary_of : Shape → Summary → Table → Result Entry FaultValue
summary_of Series op t = then_value (summary_cell op (column_at t.columns 0)) (λ c. Ok (cell c))
summary_of Frame op t = then_value (try_all (summary_as op (kind_for op t.columns)) t.columns) (λ cells. limited (across_columns t None (kind_for op t.columns) cells))

abbrev pub summary : Summary → Table → Result Entry FaultValue
summary op t = summary_of t.shape op t

-- the name is set, or taken away
abbrev pub renamed_series : Table → Option LabelValue → Table
renamed_series t name = record t { headings = name ∷ [] }

abbrev pub is_scalar_pair : LabelValue × Given → Bool
is_scalar_pair p = is_scalar p.1

-- the new label of one, if it has one
abbrev pub new_label : List (LabelValue × Given) → LabelValue → Option LabelValue
new_label [] l = None
new_label (p ∷ ps) l = if same_label p.0 l then option_map cell_label (scalar_in p.1) else new_label ps l

abbrev pub renamed_heading : List (LabelValue × Given) → Option LabelValue → Option LabelValue
renamed_heading pairs None = None
renamed_heading pairs (Some l) = Some (unwrap_or (new_label pairs l) l)

-- labels from a dict; those that it doesn't name stay
abbrev pub renamed_frame : Table → List (LabelValue × Given) → Result Entry FaultValue
renamed_frame t pairs = if list_all is_scalar_pair pairs then limited (record t { headings = map (renamed_heading pairs) t.headings }) else Err wrong_kind

-- a frame of the one column, which has the name, or 0
abbrev pub as_frame : Table → Table
as_frame t = record t { shape = Frame; headings = map (λ h. Some (unwrap_or h (int (pos 0)))) t.headings }

-- the levels become columns of a frame, or go, so that the table stays what it is
abbrev pub reset_index_result : Table → Bool → Result Entry FaultValue
reset_index_result t true = limited (renumbered t)
reset_index_result t false = levels_reset (as_frame t)

-- the table as CSV text; without the labels of the rows there must be a column
abbrev pub csv_answer : Bool → Table → Result Entry FaultValue
csv_answer index t = if index || nat_lt 0 (length t.columns) then Ok (cell (text_cell (csv_text_of index t))) else Err (bad_value no_columns)

abbrev pub answer_for : Method → List Given → Table → Result Entry FaultValue
answer_for (method.Table table_method.Copy) gs t = limited t
answer_for (method.Table table_method.Head) (n ∷ []) t = on (whole_in n) (head_result t)
answer_for (method.Table table_method.Tail) (n ∷ []) t = on (whole_in n) (tail_result t)
answer_for (method.Columns column_method.Isna) gs t = each_column (mapped Boolean missing_mark) t
answer_for (method.Columns column_method.Notna) gs t = each_column (mapped Boolean present_mark) t
answer_for (method.Columns column_method.Fillna) (value ∷ []) t = on (scalar_in value) (λ c. each_column (filled_column c) t)
answer_for (method.Rows row_method.Dropna) gs t = dropna_result t
answer_for (method.Columns column_method.Isin) (values ∷ []) t = on (list_in values) (λ parts. each_column (mapped Boolean (is_in (cells_of parts))) t)
answer_for (method.Columns column_method.Astype) (dtype ∷ []) t = on (kind_given (scalar_in dtype)) (λ kind. each_column (cast_as kind) t)
answer_for (method.Rows row_method.DuplicatedSeries) gs t = duplicated_result t nothing
answer_for (method.Rows row_method.DuplicatedFrame) (subset ∷ []) t = duplicated_result t subset
answer_for (method.Columns column_method.Shift) (periods ∷ []) t = on (whole_in periods) (λ z. each_column (shifted_column z) t)
answer_for (method.Columns column_method.Cumsum) gs t = each_column (cumulated cumulation.sum) t
answer_for (method.Columns column_method.Cummin) gs t = each_column (cumulated cumulation.min) t
answer_for (method.Columns column_method.Cummax) gs t = each_column (cumulated cumulation.max) t
answer_for (method.Summary m) gs t = summary (summary_of_method m) t
answer_for (method.Rows row_method.SortValuesSeries) (ascending ∷ []) t = on (truth_in ascending) (λ b. sort_values_result t b (all_places t))
answer_for (method.Rows row_method.SortValuesFrame) (by ∷ ascending ∷ []) t = on (truth_in ascending) (λ b. sort_by_result t b by)
answer_for (method.Rows row_method.SortIndex) (ascending ∷ []) t = on (truth_in ascending) (λ b. sorted_result t b t.labels)
answer_for (method.Table table_method.RenameSeries) (name ∷ []) t = limited (renamed_series t (option_map cell_label (scalar_in name)))
answer_for (method.Table table_method.RenameFrame) (columns ∷ []) t = on (dict_in columns) (λ pairs. renamed_frame t (pairs_in pairs))
answer_for (method.Levels level_method.RenameAxis) (names ∷ []) t = rename_axis_result t names
answer_for (method.Levels level_method.SetIndex) (keys ∷ []) t = set_index_result t keys
answer_for (method.Levels level_method.ResetIndex) (drop ∷ []) t = on (truth_in drop) (reset_index_result t)
answer_for (method.Table table_method.DropColumns) (columns ∷ []) t = drop_result t columns
answer_for (method.Levels level_method.Droplevel) (level ∷ []) t = droplevel_result t (scalar_in level)
answer_for (method.Levels level_method.Swaplevel) (i ∷ j ∷ []) t = swaplevel_result t (scalar_in i) (scalar_in j)
answer_for (method.Labels label_method.ReindexSeries) (index ∷ []) t = reindex_result t (list_in index) None
answer_for (method.Labels label_method.ReindexFrame) (index ∷ columns ∷ []) t = reindex_result t (list_in index) (list_in columns)
answer_for (method.Labels label_method.Xs) (key ∷ level ∷ []) t = on (scalar_in key) (λ c. xs_result t c (scalar_in level))
answer_for (method.Table table_method.ToFrame) gs t = limited (as_frame t)
answer_for (method.Table table_method.ToCsv) (index ∷ []) t = on (truth_in index) (λ b. csv_answer b t)
-- no other number of arguments is bound, and no other method is answered here
answer_for m gs t = Err wrong_kind

-- whether a method is answered here: those of another shape are in `Reshape`, and those of `Other` are calls of their own
abbrev pub is_answered : Method → Bool
is_answered (method.Reshape m) = false
is_answered (method.Other m) = false
is_answered m = true
