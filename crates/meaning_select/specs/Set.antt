-- What a setting or a removal makes of a table: places are picked, all is tested, and then the cells are replaced.
use Rattle.std.specs.Prelude.{ℕ, suc, ◌*◌, ◌%◌, Bool, true, false, not, ◌&&◌, ◌||◌, List, [], ◌∷◌, ◌++◌, map, fold, length, replicate, slice_index, slice_index_or, nat_eq, nat_lt, Option, Some, None, is_some, Result, Ok, Err, if◌then◌else◌}
use Rattle.std.specs.List.{list_any}
use Rattle.meaning_form.specs.cell_core.declared.grid.Shape.{Shape}
use Rattle.meaning_form.specs.cell_core.declared.grid.Shape.TheVariants.{Series, Frame}
use Rattle.meaning_form.specs.cell_core.declared.cell.Kind.{Kind}
use Rattle.meaning_form.specs.cell_core.declared.cell.Kind.TheVariants.{Int64}
use Rattle.meaning_form.specs.cells.Cell.{CellValue, na_cell, LabelValue, holds}
use Rattle.meaning_form.specs.cells.Column.{taken}
use Rattle.meaning_form.specs.cells.Operator.{cell_label, scalar_kind}
use Rattle.meaning_form.specs.cells.Symbol.{Accessor, loc, iloc, at, iat}
use Rattle.meaning_form.specs.cells.Fault.{FaultValue, wrong_kind, bad_value, length_of, levels, no_columns, then_value}
use Rattle.meaning_form.specs.tables.Table.{ColumnOf, Table, column_at}
use Rattle.meaning_form.specs.tables.Change.{with_column, with_values}
use Rattle.meaning_form.specs.tables.Value.{Entry, cell, table, Given, GivenSub, one, row, many, key_given}
use Rattle.meaning_form.specs.Given.{each, is_scalar, is_frame}
use Rattle.meaning_form.specs.Finish.{limited_table, default_labels, missing_column, column_labels}
use Rattle.meaning_form.specs.Infix.{same_tuple, same_tuples}
use Rattle.meaning_form.specs.Select.{places_of_label, columns_frame, places_besides, cells_of}
use Rattle.meaning_form.specs.Set.{list_column, of_length}
use Rattle.meaning_form.specs.pick.Keys.{one_key, Pick}
use Rattle.meaning_form.specs.align.Faults.{met_rows}
use Rattle.meaning_form.specs.align.Targets.{reindexed}
use Rattle.meaning_select.specs.Keys.{rows_by, label_columns, columns_by, joined_key, all_columns, only_column, may_stand_alone}
use Rattle.meaning_select.specs.Select.{Way, plain, through}

-- the value of a setting: a scalar for each cell, a list, or a Series
pub data SetValue : Type 0 where
  same : CellValue → SetValue
  listed : List CellValue → SetValue
  aligned : Table → SetValue

abbrev pub set_value : Given → Result SetValue FaultValue
set_value (one (cell c)) = Ok (same c)
set_value (one (table s)) = if is_frame s.shape then Err wrong_kind else Ok (aligned s)
set_value (many parts) = if each is_scalar parts then Ok (listed (cells_of parts)) else Err wrong_kind
set_value g = Err wrong_kind

-- where a column is put under a label: in place of each one that has it, or after the last one
abbrev pub or_last : ℕ → List ℕ → List ℕ
or_last count [] = count ∷ []
or_last count (place ∷ places) = place ∷ places

abbrev pub places_to_put : Table → LabelValue → List ℕ
places_to_put t l = or_last (length t.headings) (places_of_label t.headings l)

-- the frame with the column in place of each one that has the label, or last
abbrev pub with_labelled : Table → LabelValue → ColumnOf CellValue → Table
with_labelled t l c = fold (λ u place. with_column u place (Some l) c) t (places_to_put t l)

abbrev pub put_result : Table → LabelValue → ColumnOf CellValue → Result Table FaultValue
put_result t l c = limited_table (with_labelled t l c)

-- a frame without rows gets rows, in which its columns hold NA
abbrev pub with_rows : Table → List (List LabelValue) → List (Option LabelValue) → Table
with_rows t labels level_names = record t { labels = labels; level_names = level_names; columns = map (λ c. missing_column c.kind (length labels)) t.columns }

abbrev pub has_none : {A : Type 0} → List A → Bool
has_none [] = true
has_none (a ∷ as') = false

-- a list goes by rows; a frame without rows gets the labels 0, 1 and so on
abbrev pub list_set : Table → LabelValue → ColumnOf CellValue → Result Table FaultValue
list_set t l c =
    if has_none t.labels && not (has_none c.cells)
    then put_result (with_rows t (default_labels (length c.cells)) (None ∷ [])) l c
    else of_length (length t.labels) (length c.cells) (put_result t l c)

-- the row of a Series that each of these labels takes, or a gap: all in order where they are its own labels. Other labels need as
-- many levels, and a Series without repeated labels.
abbrev pub aligned_rows : ℕ → List (List LabelValue) → Table → Result (List (Option ℕ)) FaultValue
aligned_rows level_count labels s =
    if same_tuples labels s.labels || nat_eq level_count (length s.level_names) then met_rows (reindexed same_tuple s.labels labels)
    else Err (bad_value levels)

-- its column at these rows, with NA at a gap
abbrev pub column_at_rows : ColumnOf CellValue → List (Option ℕ) → ColumnOf CellValue
column_at_rows c rows = record { kind = c.kind; cells = taken na_cell c.cells rows }

abbrev pub aligned_column : ℕ → List (List LabelValue) → Table → Result (ColumnOf CellValue) FaultValue
aligned_column level_count labels s = then_value (aligned_rows level_count labels s) (λ rows. Ok (column_at_rows (column_at s.columns 0) rows))

-- a Series is aligned to the rows; a frame without rows gets those of the Series
abbrev pub series_set : Table → LabelValue → Table → Result Table FaultValue
series_set t l s =
    if has_none t.labels && not (has_none s.labels)
    then put_result (with_rows t s.labels s.level_names) l (column_at s.columns 0)
    else then_value (aligned_column (length t.level_names) t.labels s) (put_result t l)

-- a scalar in each row
abbrev pub scalar_column : ℕ → CellValue → ColumnOf CellValue
scalar_column count c = record { kind = scalar_kind Int64 c; cells = replicate count c }

-- the columns of a label
abbrev pub column_set : Table → LabelValue → SetValue → Result Table FaultValue
column_set t l (same c) = put_result t l (scalar_column (length t.labels) c)
column_set t l (listed cells) = then_value (list_column cells) (list_set t l)
column_set t l (aligned s) = series_set t l s

abbrev pub frame_set : Table → GivenSub → Given → Result Table FaultValue
frame_set t (key_given (one (cell c))) g = then_value (set_value g) (column_set t (cell_label c))
frame_set t k g = Err wrong_kind

-- the rows or the columns that a setting reaches, and the label of one that is added behind the last
pub record Reached : Type 0 where
  pub places : List ℕ
  pub added : Option LabelValue

abbrev pub picked : Pick → Reached
picked p = record { places = p.rows; added = None }

-- a scalar key of `loc` or `at` adds its label where it isn't there
abbrev pub added_label : Accessor → GivenSub → Option LabelValue
added_label loc (key_given (one (cell c))) = Some (cell_label c)
added_label at (key_given (one (cell c))) = Some (cell_label c)
added_label by k = None

abbrev pub or_added : Option LabelValue → List (List LabelValue) → Result Pick FaultValue → Result Reached FaultValue
or_added None tuples pick = then_value pick (λ p. Ok (picked p))
or_added (Some l) tuples pick =
    if list_any (same_tuple (l ∷ [])) tuples then then_value pick (λ p. Ok (picked p)) else Ok record { places = length tuples ∷ []; added = Some l }

-- a row is added on one level alone
abbrev pub row_to_add : Accessor → Table → GivenSub → Option LabelValue
row_to_add by t k = if nat_eq (length t.level_names) 1 then added_label by k else None

abbrev pub rows_set : Accessor → Table → GivenSub → Result Reached FaultValue
rows_set by t k = or_added (row_to_add by t k) t.labels (rows_by by t k)

abbrev pub columns_set : Accessor → Table → GivenSub → Result Reached FaultValue
columns_set by t k = or_added (added_label by k) (column_labels t) (columns_by by t k)

-- the cells that a setting reaches
pub record Target : Type 0 where
  pub rows : Reached
  pub columns : Reached

abbrev pub target_of : Result Reached FaultValue → Result Reached FaultValue → Result Target FaultValue
target_of rows columns = then_value rows (λ r. then_value columns (λ c. Ok record { rows = r; columns = c }))

-- as many keys as in a selection: two scalars of a Series are one tuple
abbrev pub target_by : Shape → Accessor → Table → GivenSub → Option GivenSub → Result Target FaultValue
target_by Series by t k None = target_of (rows_set by t k) (Ok (picked only_column))
target_by Series by t k (Some other) = target_of (then_value (joined_key by (length t.level_names) k other) (rows_set by t)) (Ok (picked only_column))
target_by Frame by t k None = if may_stand_alone by k then target_of (rows_set by t k) (Ok (picked (all_columns t))) else Err wrong_kind
target_by Frame by t k (Some other) = target_of (rows_set by t k) (columns_set by t other)

-- a new row of a frame without columns, where no column is named
abbrev pub lacks_columns : Table → Target → Bool
lacks_columns t target = has_none t.columns && is_some target.rows.added && not (is_some target.columns.added)

-- the table with one more row, of NA
abbrev pub with_gap : ColumnOf CellValue → ColumnOf CellValue
with_gap c = record { kind = c.kind; cells = c.cells ++ na_cell ∷ [] }

abbrev pub with_row : Table → Option LabelValue → Table
with_row t None = t
with_row t (Some l) = record t { labels = t.labels ++ (l ∷ []) ∷ []; columns = map with_gap t.columns }

-- the labels of the rows that are reached
abbrev pub reached_labels : Table → Reached → List (List LabelValue)
reached_labels t rows = map (λ row. slice_index_or (with_row t rows.added).labels row []) rows.places

-- the values of a list, row by row: by rows where one column is reached, by columns where one row of several columns is
abbrev pub listed_values : ℕ → ℕ → List CellValue → Result (List CellValue) FaultValue
listed_values rows columns cells =
    if nat_eq columns 1 then of_length rows (length cells) (Ok cells)
    else if nat_eq rows 1 && nat_lt 1 columns then of_length columns (length cells) (Ok cells)
    else Err (bad_value (length_of rows (length cells)))

-- those of a Series: by position in `iloc` and `iat`, and else aligned to the labels of the rows
abbrev pub placed_values : ℕ → Table → Result (List CellValue) FaultValue
placed_values count s = of_length count (length s.labels) (Ok (column_at s.columns 0).cells)

abbrev pub aligned_values : Table → Reached → Table → Result (List CellValue) FaultValue
aligned_values t rows s = then_value (aligned_column (length t.level_names) (reached_labels t rows) s) (λ c. Ok c.cells)

abbrev pub series_values : Accessor → Table → Reached → Table → Result (List CellValue) FaultValue
series_values iloc t rows s = placed_values (length rows.places) s
series_values iat t rows s = placed_values (length rows.places) s
series_values by t rows s = aligned_values t rows s

-- a value for each row and column that is reached, row by row
abbrev pub values_for : Accessor → Table → Target → SetValue → Result (List CellValue) FaultValue
values_for by t target (same c) = Ok (replicate (length target.rows.places * length target.columns.places) c)
values_for by t target (listed cells) = listed_values (length target.rows.places) (length target.columns.places) cells
values_for by t target (aligned s) = if nat_eq (length target.columns.places) 1 then series_values by t target.rows s else Err wrong_kind

-- the kind of a new column, as that of a whole column
abbrev pub kind_of_value : SetValue → Result Kind FaultValue
kind_of_value (same c) = Ok (scalar_kind Int64 c)
kind_of_value (listed cells) = then_value (list_column cells) (λ c. Ok c.kind)
kind_of_value (aligned s) = Ok (column_at s.columns 0).kind

-- the table with one more column, of NA, last
abbrev pub with_new_column : Table → Option LabelValue → SetValue → Result Table FaultValue
with_new_column t None value = Ok t
with_new_column t (Some l) value = then_value (kind_of_value value) (λ kind. Ok (with_column t (length t.columns) (Some l) (missing_column kind (length t.labels))))

-- each value fits the kind of its column, where the first value has this number
abbrev pub fit_from : ℕ → Table → List ℕ → List CellValue → Bool
fit_from k t places [] = true
fit_from k t places (c ∷ cells) = holds (column_at t.columns (slice_index places (k % length places))).kind c && fit_from (suc k) t places cells

-- The table with these values. Nothing is set unless all values fit.
abbrev pub filled_table : Table → List ℕ → List ℕ → List CellValue → Result Table FaultValue
filled_table t rows places values = if fit_from 0 t places values then limited_table (with_values t rows places values) else Err wrong_kind

abbrev pub target_set : Accessor → Table → SetValue → Target → Result Table FaultValue
target_set by t value target =
    if lacks_columns t target then Err (bad_value no_columns)
    else then_value (values_for by t target value) (λ values.
    then_value (with_new_column (with_row t target.rows.added) target.columns.added value) (λ grown.
    filled_table grown target.rows.places target.columns.places values))

-- a setting behind an accessor: the form of the value, the keys, and then the cells
abbrev pub access_set : Accessor → Table → GivenSub → Option GivenSub → Given → Result Table FaultValue
access_set by t first second g = then_value (set_value g) (λ value. then_value (target_by t.shape by t first second) (target_set by t value))

-- of a Series, brackets alone are `loc`; of a frame they take one key
abbrev pub item_set : Shape → Table → GivenSub → Option GivenSub → Given → Result Table FaultValue
item_set Series t first second g = access_set loc t first second g
item_set Frame t first None g = frame_set t first g
item_set Frame t first (Some second) g = Err wrong_kind

abbrev pub table_set : Way → Table → GivenSub → Option GivenSub → Given → Result Table FaultValue
table_set plain t first second g = item_set t.shape t first second g
table_set (through by) t first second g = access_set by t first second g

-- a scalar has no cells to set
abbrev pub assign_result : Entry → Way → GivenSub → Option GivenSub → Given → Result Table FaultValue
assign_result (cell c) way first second g = Err wrong_kind
assign_result (table t) way first second g = table_set way t first second g

-- `del` of the columns of a label of a frame; of a Series, of a scalar, and by what isn't a scalar it is a TypeError
abbrev pub removal_result : Entry → Entry → Result Table FaultValue
removal_result (table t) (cell c) =
    if is_frame t.shape then then_value (label_columns t (one_key (cell_label c ∷ []))) (λ places. Ok (columns_frame t (places_besides t places))) else Err wrong_kind
removal_result v k = Err wrong_kind
