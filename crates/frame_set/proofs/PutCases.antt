-- Columns for the rows of a frame, and rows that a frame gets with a column.
use Rattle.{frame_parts.proofs.Common.{column_seen, length-map, All-replicate, length-map-range_with_len, nat_tests, ◌≡◌, ◌∙◌, ap, sym, subst, ℕ, ◌<◌, true, List, [], ◌∷◌, length, replicate, arith, Option, None, Result, Ok, Err, IfOk, tuple_value, then_value, ColumnOf, MakesBy, cell_given, cells_given, columns_given, columns_part, labels_value, headings_value, columns_value, Tables, OpFault, Cell, Na, Label, Series, taken, Text, CellValue, LabelValue, datum, label_datum, na_cell, IsGiven, AreGiven, AxisValue, range_axis, CellColumn, IsSettled, NumberedTable, table_value, column_at, no_column, axis_of, IsWhole, default_labels, same_tuples, default_seen}, frame_set.{proofs.{CellLaws.{none_seen}, AlignLaws.{tuples_decide, own_column, taken_seen}, PutLaws.{put_by, put_seen, put_settled, put_there, places_seen, rows_seen, rows_settled}, SetLaws.{part_refused}}, specs.{Changes.{RefusesBy}, Places.{places_at}, declared.values.SetValue.{SetValue, TheVariants.{Same, Listed}}, Values.{value_in}, Assigned.{table_column, put_places, with_axis, with_places}}}, frame_select.{proofs.AnswerLaws.{column_seen as first_column}, specs.select.Set.{put_result, with_rows, list_set, column_at_rows, series_set}}}
use Rattle.frame_select.specs.select.Set as meant

-- the cells of a column were given
pub column_is_given : (texts : List Text) (t : NumberedTable) (place : ℕ) (c copy : CellColumn) → IsSettled table_value texts t → place < length t.columns → column_at t.columns place ≡ record { kind = c.kind; cells = c.cells } → copy ≡ c → AreGiven texts copy.cells
column_is_given texts t place c _ settled lt = grind (arith, columns_given texts t.columns (columns_part texts t settled) place no_column lt)

pub filled_given : (texts : List Text) (n : ℕ) (c : Cell) (cells : List Cell) → IsSettled datum texts c → cells ≡ replicate n c → AreGiven texts cells
filled_given texts n c _ settled is = rw is (All-replicate (IsGiven texts) n c (cell_given _ c settled))

-- the labels 0, 1 and so on

pub range_seen : (texts : List Text) (n : ℕ) (axis : AxisValue) → axis ≡ range_axis n → labels_value texts axis.tuples ≡ default_labels n
range_seen texts n _ is = cc (default_seen texts n)

pub range_names : (texts : List Text) (n : ℕ) (axis : AxisValue) → axis ≡ range_axis n → headings_value texts axis.names ≡ None ∷ []
range_names _ n _ is = cc

pub default_count : (n : ℕ) → length (default_labels n) ≡ n
default_count = search length-map-range_with_len

pub range_count : (n : ℕ) (axis : AxisValue) → axis ≡ range_axis n → length axis.tuples ≡ n
range_count = grind (arith, length-map, length-map-range_with_len)

-- a list goes by rows, and gives a frame without rows its own

pub list_rows : (texts : List Text) (t : NumberedTable) (l : LabelValue) (c : CellColumn) → length t.labels ≡ 0 → 0 < length c.cells
    → list_set (table_value texts t) l (column_seen texts c) ≡ put_result (with_rows (table_value texts t) (default_labels (length c.cells)) (None ∷ [])) l (column_seen texts c)
list_rows = grind (arith, none_seen, nat_tests, length-map)

-- a Series gives a frame without rows its own, and else is aligned

pub series_rows : (texts : List Text) (t s : NumberedTable) (l : LabelValue) → length t.labels ≡ 0 → 0 < length s.labels
    → series_set (table_value texts t) l (table_value texts s) ≡ put_result (with_rows (table_value texts t) (labels_value texts s.labels) (headings_value texts s.level_names)) l (column_at (columns_value texts s.columns) 0)
series_rows = grind (arith, none_seen, nat_tests)

pub series_fits : (texts : List Text) (t s : NumberedTable) (l : LabelValue) → length (column_at s.columns 0).cells ≡ length s.labels → same_tuples (labels_value texts t.labels) (labels_value texts s.labels) ≡ true
    → series_set (table_value texts t) l (table_value texts s) ≡ put_result (table_value texts t) l (column_at (columns_value texts s.columns) 0)
series_fits texts t s l many same = grind (arith, tuples_decide (labels_value texts t.labels) (labels_value texts s.labels), none_seen, nat_tests, own_column (length (table_value texts t).level_names) (labels_value texts t.labels) (table_value texts s) same, first_column texts s.columns 0, length-map)

-- the frame with the rows of an axis and a column
pub rows_meant : (texts : List Text) (t : NumberedTable) (axis : AxisValue) (places : List ℕ) (rows : ℕ) (label : Label) (c : CellColumn) (u : NumberedTable) → IsWhole t → rows ≡ length axis.tuples
    → put_places rows (table_value texts t) (label_datum texts label) ≡ Ok places → u ≡ with_places (with_axis t axis) places label (table_column c)
    → put_result (with_rows (table_value texts t) (labels_value texts axis.tuples) (headings_value texts axis.names)) (label_datum texts label) (column_seen texts c) ≡ Ok (table_value texts u)
rows_meant texts t axis places _ label c = grind (arith, put_by (with_rows (table_value texts t) (labels_value texts axis.tuples) (headings_value texts axis.names)) (label_datum texts label) (column_seen texts c), rows_seen texts t axis, places_seen texts (with_axis t axis) places label c, length-map)

-- or it isn't put
pub put_refused : (texts : List Text) (t : NumberedTable) (label : Label) (c : ColumnOf CellValue) (rows : ℕ) (fault : OpFault) → IsWhole t → rows ≡ length t.labels → MakesBy places_at texts (Err fault) (put_places rows (table_value texts t) (label_datum texts label))
    → RefusesBy texts fault (put_result (table_value texts t) (label_datum texts label) c)
put_refused texts t label c rows fault whole is refused =
    subst (RefusesBy texts fault) (sym (put_seen texts t label c rows whole is)) (part_refused places_at texts _ (put_there (table_value texts t) (label_datum texts label) c) fault refused)

pub rows_refused : (texts : List Text) (t : NumberedTable) (axis : AxisValue) (label : Label) (c : ColumnOf CellValue) (rows : ℕ) (fault : OpFault) → IsWhole t → rows ≡ length axis.tuples → MakesBy places_at texts (Err fault) (put_places rows (table_value texts t) (label_datum texts label))
    → RefusesBy texts fault (put_result (with_rows (table_value texts t) (labels_value texts axis.tuples) (headings_value texts axis.names)) (label_datum texts label) c)
rows_refused texts t axis label c rows fault whole is refused =
    let T = with_rows (table_value texts t) (labels_value texts axis.tuples) (headings_value texts axis.names) in
    let l = label_datum texts label in
    let same : put_places (length T.labels) T l ≡ put_places rows (table_value texts t) l = ap (λ n. put_places n (table_value texts t) l) (length-map axis.tuples (tuple_value texts) ∙ sym is) in
    subst (RefusesBy texts fault) (sym (put_by T l c (search length-map) ∙ ap (λ r. then_value r (put_there T l c)) same)) (part_refused places_at texts _ (put_there T l c) fault refused)

pub series_refused : (texts : List Text) (t s : NumberedTable) (label : Label) (rows : ℕ) (fault : OpFault) → IsWhole t → length t.labels ≡ 0 → 0 < length s.labels → rows ≡ length s.labels
    → MakesBy places_at texts (Err fault) (put_places rows (table_value texts t) (label_datum texts label)) → RefusesBy texts fault (series_set (table_value texts t) (label_datum texts label) (table_value texts s))
series_refused texts t s label rows fault whole none some is refused =
    subst (RefusesBy texts fault) (sym (series_rows texts t s (label_datum texts label) none some)) (rows_refused texts t (axis_of s) label _ rows fault whole is refused)

pub rows_given : (texts : List Text) (t : NumberedTable) (axis : AxisValue) (places : List ℕ) (label : Label) (c : CellColumn) (u : NumberedTable) → IsSettled table_value texts t → IsSettled labels_value texts axis.tuples → IsSettled headings_value texts axis.names
    → IsSettled label_datum texts label → AreGiven texts c.cells → u ≡ with_places (with_axis t axis) places label (table_column c) → IsSettled table_value texts u
rows_given _ t _ _ _ c u settled tuples names named given made = rw made (search (put_settled, rows_settled))

-- the column of a Series, as that of a kernel
pub series_column : (texts : List Text) (s : NumberedTable) (c copy : CellColumn) → column_at s.columns 0 ≡ record { kind = c.kind; cells = c.cells } → copy ≡ c → column_at (columns_value texts s.columns) 0 ≡ column_seen texts copy
series_column = grind (arith, first_column)

-- at the rows that labels take
pub taken_column : (texts : List Text) (s : NumberedTable) (rows : List (Option ℕ)) (c made : CellColumn) → column_at s.columns 0 ≡ record { kind = c.kind; cells = c.cells } → made.kind ≡ c.kind → made.cells ≡ taken Na c.cells rows
    → column_at_rows (column_at (columns_value texts s.columns) 0) rows ≡ column_seen texts made
taken_column texts s rows c _ is kind cells = cc (first_column texts s.columns 0, taken_seen texts c.cells rows)

pub has_column : (s : NumberedTable) → IsWhole s → s.shape ≡ Series → 0 < length s.columns
has_column s whole series = omega (arith, whole.headings.single series, whole.headed)

pub own_cells : (s : NumberedTable) → IsWhole s → s.shape ≡ Series → length (column_at s.columns 0).cells ≡ length s.labels
own_cells = grind (arith, has_column)

pub own_given : (texts : List Text) (s : NumberedTable) (r : Result (List Cell) OpFault) → IsWhole s → s.shape ≡ Series → IsSettled table_value texts s → IfOk r (λ cells. cells ≡ (column_at s.columns 0).cells) → IfOk r (AreGiven texts)
own_given _ s (Ok cells) whole series settled is = rw is (search (columns_given, columns_part, has_column))
own_given _ s _ _ _ _ _ = tt

-- the value of a setting, whose texts were given
abbrev same_in : meant.SetValue → CellValue
same_in (meant.same c) = c
same_in v = na_cell

abbrev listed_in : meant.SetValue → List CellValue
listed_in (meant.listed cells) = cells
listed_in v = []

pub same_settled : (live : Tables) (texts : List Text) (v : SetValue) (c : Cell) → v ≡ Same c → IsSettled (value_in live) texts v → IsSettled datum texts c
same_settled _ _ v c is settled more = cc (settled more)

pub listed_given : (live : Tables) (texts : List Text) (v : SetValue) (cells : List Cell) → v ≡ Listed cells → IsSettled (value_in live) texts v → AreGiven texts cells
listed_given _ _ v _ is settled = cells_given _ _ (λ more. cc (settled more))
