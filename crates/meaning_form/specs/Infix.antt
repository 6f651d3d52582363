-- Operators on scalars and tables.
use Rattle.std.specs.Prelude.{ℕ, pos, Bool, true, false, ◌&&◌, List, [], ◌∷◌, map, length, replicate, is_some, Option, Some, None, Result, Ok, Err, if◌then◌else◌}
use Rattle.std.specs.List.{list_all, list_any}
use Rattle.std.specs.Ordering.{is_lt}
use Rattle.std.specs.Cmp.Lexicographic.{pointwise, slice_cmp}
use Rattle.meaning_align.specs.cell_core.declared.cell.Kind.{Kind}
use Rattle.meaning_align.specs.cell_core.declared.cell.Kind.TheVariants.{Int64, Boolean}
use Rattle.meaning_align.specs.cell_core.declared.grid.Shape.{Shape}
use Rattle.meaning_align.specs.cell_core.declared.grid.Shape.TheVariants.{Series, Frame}
use Rattle.meaning_tables.specs.cells.Cell.{CellValue, int_cell, na_cell, LabelValue, label_cmp}
use Rattle.meaning_tables.specs.cells.Column.{ColumnValue, taken}
use Rattle.meaning_tables.specs.cells.Operator.{operator_kind, binary_column, scalar_column, invert_column}
use Rattle.meaning_tables.specs.cells.Symbol.{Binary, sub, eq, ne, lt, le, gt, ge}
use Rattle.meaning_tables.specs.cells.Fault.{FaultValue, wrong_kind, bad_value, levels, not_aligned, limit, then_value}
use Rattle.meaning_align.specs.Faults.{met_rows}
use Rattle.meaning_align.specs.Joins.{Lists, outer}
use Rattle.meaning_tables.specs.Table.{ColumnOf, TableOf, Table, column_at}
use Rattle.meaning_tables.specs.Value.{Entry, cell, table}
use Rattle.meaning_form.specs.Given.{same_label}
use Rattle.meaning_form.specs.Finish.{within_limits, limited_table, same_heading, first_repeated, unless_repeated, same_kind, value_of_column, column_of_value, made_column, try_all, with_columns, column_labels}

-- lists of equal labels
abbrev pub same_tuple : List LabelValue → List LabelValue → Bool
same_tuple a b = pointwise same_label a b

-- lists of equal tuples: the rows of two axes meet by position
abbrev pub same_tuples : List (List LabelValue) → List (List LabelValue) → Bool
same_tuples a b = pointwise same_tuple a b

-- the order of tuples: that of their first different labels
abbrev pub tuple_before : List LabelValue → List LabelValue → Bool
tuple_before a b = is_lt (slice_cmp label_cmp a b)

abbrev pub same_headings : List (Option LabelValue) → List (Option LabelValue) → Bool
same_headings a b = pointwise same_heading a b

-- the labels of the rows are the labels of the columns, in their order
abbrev pub are_headings : List (List LabelValue) → List (Option LabelValue) → Bool
are_headings [] [] = true
are_headings ((l ∷ []) ∷ ls) (h ∷ hs) = same_heading (Some l) h && are_headings ls hs
are_headings ls hs = false

-- a name that both have
abbrev pub common_name : Option LabelValue → Option LabelValue → Option LabelValue
common_name a b = if same_heading a b then a else None

-- the name of each level, where both have it
abbrev pub common_names : List (Option LabelValue) → List (Option LabelValue) → List (Option LabelValue)
common_names (a ∷ as') (b ∷ bs) = common_name a b ∷ common_names as' bs
common_names as' bs = []

-- two columns that meet, cell by cell
abbrev pub Meeting : Type 0
Meeting = ColumnValue × ColumnValue

abbrev pub swapped : Meeting → Meeting
swapped m = (m.1, m.0)

-- the operator takes the kinds
abbrev pub meets : Binary → Meeting → Bool
meets op m = is_some (operator_kind op m.0.kind m.1.kind)

abbrev pub met : Binary → Meeting → Result (ColumnOf CellValue) FaultValue
met op m = made_column (binary_column op m.0 m.1)

-- The table whose columns are what the operator makes of these. Kinds are tested first, the limits next, a divisor of 0
-- last.
abbrev pub infix_table : Binary → Table → List Meeting → Result Entry FaultValue
infix_table op t meetings =
    if list_all (meets op) meetings
    then (if within_limits (length t.labels) (length meetings) then then_value (try_all (met op) meetings) (λ columns. Ok (table (with_columns t columns))) else Err limit)
    else Err wrong_kind

-- each column with the scalar in each row
abbrev pub with_scalar : CellValue → ColumnOf CellValue → Meeting
with_scalar c a = (value_of_column a, scalar_column (value_of_column a) c)

-- each column with the column at its place
abbrev pub beside : List (ColumnOf CellValue) → List (ColumnOf CellValue) → List Meeting
beside (a ∷ as') (b ∷ bs) = (value_of_column a, value_of_column b) ∷ beside as' bs
beside as' bs = []

-- a cell in so many rows
abbrev pub spread : Kind → ℕ → CellValue → ColumnValue
spread kind count c = record { kind = kind; cells = replicate count c }

-- each column with the cell at its place, which stands in each row
abbrev pub across : ℕ → Kind → List (ColumnOf CellValue) → List CellValue → List Meeting
across count kind (a ∷ as') (c ∷ cs) = (value_of_column a, spread kind count c) ∷ across count kind as' cs
across count kind as' cs = []

-- the meetings, the other way round where this is so
abbrev pub turned : Bool → List Meeting → List Meeting
turned false meetings = meetings
turned true meetings = map swapped meetings

abbrev pub scalar_infix : Binary → Bool → Table → CellValue → Result Entry FaultValue
scalar_infix op left t c = infix_table op t (turned left (map (with_scalar c) t.columns))

-- where the numbers of levels differ, after the test of the kinds
abbrev pub on_levels : Bool → Bool → Result Entry FaultValue → Result Entry FaultValue
on_levels false equal rest = Err wrong_kind
on_levels true false rest = Err (bad_value levels)
on_levels true true rest = rest

abbrev pub same_count : {A B : Type 0} → List A → List B → Bool
same_count [] [] = true
same_count (a ∷ as') (b ∷ bs) = same_count as' bs
same_count a b = false

abbrev pub has_one : {A : Type 0} → List A → Bool
has_one [] = false
has_one (a ∷ []) = true
has_one (a ∷ b ∷ as') = false

-- the operator compares
abbrev pub compares : Binary → Bool
compares eq = true
compares ne = true
compares lt = true
compares le = true
compares gt = true
compares ge = true
compares op = false

-- rows by the labels that either table has: for each its tuple, and the row of either side, if it has one there
abbrev pub Joined : Type 0
Joined = Lists (List LabelValue)

abbrev pub joined_rows : List (List LabelValue) → List (List LabelValue) → Result Joined FaultValue
joined_rows a b = met_rows (outer same_tuple tuple_before a b)

-- the columns on other rows, each of which is one of theirs or missing
abbrev pub on_rows : {C : Type 0} → C → List (Option ℕ) → List (ColumnOf C) → List (ColumnOf C)
on_rows na rows columns = map (λ c. record { kind = c.kind; cells = taken na c.cells rows }) columns

-- the columns of both tables on the joined rows, and the table of these rows
abbrev pub joined_columns : Table → Table → Joined → List Meeting
joined_columns a b rows = beside (on_rows na_cell rows.left a.columns) (on_rows na_cell rows.right b.columns)

abbrev pub with_joined : Table → Table → Table → Joined → Table
with_joined a b t rows = record t { labels = rows.keys; level_names = common_names a.level_names b.level_names }

abbrev pub joined_infix : Binary → Table → Table → Table → Joined → Result Entry FaultValue
joined_infix op a b t rows = infix_table op (with_joined a b t rows) (joined_columns a b rows)

-- tables whose labels differ are joined, but not compared
abbrev pub unequal_infix : Binary → Table → Table → Table → Result Entry FaultValue
unequal_infix op a b t = if compares op then Err (bad_value not_aligned) else then_value (joined_rows a.labels b.labels) (joined_infix op a b t)

-- Two tables whose columns meet in order; t is the left one, under the headings of the answer. Rows meet by position
-- where the labels of both are equal, and else each with each row of its label, or with none.
abbrev pub rows_infix : Binary → Table → Table → Table → Result Entry FaultValue
rows_infix op a b t =
    on_levels (list_all (meets op) (beside a.columns b.columns)) (same_count a.level_names b.level_names)
    (if same_tuples a.labels b.labels then infix_table op t (beside a.columns b.columns) else unequal_infix op a b t)

-- the heading of a Series
abbrev pub first_heading : List (Option LabelValue) → Option LabelValue
first_heading [] = None
first_heading (h ∷ hs) = h

-- two Series, whose columns always meet
abbrev pub series_infix : Binary → Table → Table → Result Entry FaultValue
series_infix op a b = rows_infix op a b record a { headings = common_name (first_heading a.headings) (first_heading b.headings) ∷ [] }

-- the label of a column that a tuple is
abbrev pub tuple_heading : {L : Type 0} → List L → Option L
tuple_heading [] = None
tuple_heading (l ∷ ls) = Some l

-- the column at a place of a side; where the side has none, one of missing cells, of the kind that stands opposite
abbrev pub column_or_missing : {C : Type 0} → C → ℕ → List (ColumnOf C) → List (ColumnOf C) → Option ℕ → Option ℕ → ColumnOf C
column_or_missing na count own other (Some place) opposite = column_at own place
column_or_missing na count own other None (Some place) = record { kind = (column_at other place).kind; cells = replicate count na }
column_or_missing na count own other None None = record { kind = Int64; cells = replicate count na }

-- the columns at these places of a side, and at those of the other
abbrev pub columns_or_missing : {C : Type 0} → C → ℕ → List (ColumnOf C) → List (ColumnOf C) → List (Option ℕ) → List (Option ℕ) → List (ColumnOf C)
columns_or_missing na count own other (place ∷ places) (opposite ∷ opposites) = column_or_missing na count own other place opposite ∷ columns_or_missing na count own other places opposites
columns_or_missing na count own other places opposites = []

-- a frame under joined labels of columns, which it has at these places, and the other side at those
abbrev pub on_columns : Table → Table → List (List LabelValue) → List (Option ℕ) → List (Option ℕ) → Table
on_columns own other keys places opposites =
    record own { headings = map tuple_heading keys; columns = columns_or_missing na_cell (length own.labels) own.columns other.columns places opposites }

-- two frames whose columns meet in order, under the name of the columns that both have
abbrev pub common_infix : Binary → Table → Table → Result Entry FaultValue
common_infix op a b = rows_infix op a b record a { columns_name = common_name a.columns_name b.columns_name }

-- two frames by the labels of columns that either has, which stand once in each
abbrev pub wide_infix : Binary → Table → Table → Joined → Result Entry FaultValue
wide_infix op a b columns = common_infix op (on_columns a b columns.keys columns.left columns.right) (on_columns b a columns.keys columns.right columns.left)

abbrev pub joined_frames : Binary → Table → Table → Result Entry FaultValue
joined_frames op a b = then_value (joined_rows (column_labels a) (column_labels b)) (wide_infix op a b)

-- the operator takes columns of this one's kind on both sides
abbrev pub takes_twice : {C : Type 0} → Binary → ColumnOf C → Bool
takes_twice op c = is_some (operator_kind op c.kind c.kind)

-- a Series without a row has no cell to be taken
abbrev pub takes_rows : {K C : Type 0} → Binary → List K → ColumnOf C → Bool
takes_rows op [] c = true
takes_rows op (label ∷ labels) c = takes_twice op c

abbrev pub takes_each : {L C : Type 0} → Binary → TableOf L C → TableOf L C → Bool
takes_each op f s = list_all (takes_twice op) f.columns && takes_rows op s.labels (column_at s.columns 0)

-- each column under a label that the Series has is of the Series' kind, since no operator takes two
abbrev pub labels_fit : {K C : Type 0} → (K → K → Bool) → Kind → List K → List K → List (ColumnOf C) → Bool
labels_fit same kind labels (key ∷ keys) (c ∷ cs) = (if list_any (same key) labels then same_kind c.kind kind else true) && labels_fit same kind labels keys cs
labels_fit same kind labels keys cs = true

-- columns of one label are of one kind
abbrev pub pairs_fit : {K C : Type 0} → (K → K → Bool) → List K → List (ColumnOf C) → List K → List (ColumnOf C) → Bool
pairs_fit same (key ∷ keys) (c ∷ cs) others columns = labels_fit same c.kind (key ∷ []) others columns && pairs_fit same keys cs others columns
pairs_fit same keys cs others columns = true

-- the operator takes each column of both frames, and those of one label
abbrev pub frames_fit : Binary → Table → Table → Bool
frames_fit op a b = list_all (takes_twice op) a.columns && list_all (takes_twice op) b.columns && pairs_fit same_tuple (column_labels a) a.columns (column_labels b) b.columns

-- frames of other columns, which aren't compared, and neither of which repeats a label
abbrev pub unequal_frames : Binary → Table → Table → Result Entry FaultValue
unequal_frames op a b =
    on_levels (frames_fit op a b) (same_count a.level_names b.level_names)
    (if compares op then Err (bad_value not_aligned)
    else unless_repeated (first_repeated a.headings) (unless_repeated (first_repeated b.headings) (joined_frames op a b)))

-- Two frames. Columns meet in order where the labels of both are equal, and else by the labels that either has.
abbrev pub frame_infix : Binary → Table → Table → Result Entry FaultValue
frame_infix op a b = if same_headings a.headings b.headings then common_infix op a b else unequal_frames op a b

-- a frame's columns with a Series' cells, which lie across them
abbrev pub across_series : Bool → Table → Table → List Meeting
across_series left f s = turned left (across (length f.labels) (column_at s.columns 0).kind f.columns (column_at s.columns 0).cells)

-- a Series in each row of a frame, as a frame whose columns it labels
abbrev pub spread_series : Table → Table → Table
spread_series f s =
    record f {
      headings = map tuple_heading s.labels;
      columns = map (λ c. column_of_value (spread (column_at s.columns 0).kind (length f.labels) c)) (column_at s.columns 0).cells;
    }

-- such a frame, unless it or the other one repeats a label, or it is beyond the limits
abbrev pub spread_frame : Table → Table → Result Table FaultValue
spread_frame f s =
    unless_repeated (first_repeated (spread_series f s).headings) (unless_repeated (first_repeated f.headings) (limited_table (spread_series f s)))

abbrev pub joined_turned : Binary → Bool → Table → Table → Result Entry FaultValue
joined_turned op false f g = joined_frames op f g
joined_turned op true f g = joined_frames op g f

-- A frame with a Series of other labels than its columns: each row meets the Series by the labels of columns that
-- either has. Kinds are tested first: each column's and the Series', and where a column and a label meet. They aren't
-- compared, and neither the Series nor the frame repeats a label.
abbrev pub across_unequal : Binary → Bool → Table → Table → Result Entry FaultValue
across_unequal op left f s =
    on_levels (takes_each op f s) (has_one s.level_names)
    (if labels_fit same_tuple (column_at s.columns 0).kind s.labels (column_labels f) f.columns
    then (if compares op then Err (bad_value not_aligned) else then_value (spread_frame f s) (joined_turned op left f))
    else Err wrong_kind)

-- A frame with a Series. Each row meets the Series: in order where its labels are those of the columns, and else by its
-- labels.
abbrev pub across_infix : Binary → Bool → Table → Table → Result Entry FaultValue
across_infix op left f s =
    if are_headings s.labels f.headings
    then on_levels (list_all (meets op) (across_series left f s)) (has_one s.level_names) (infix_table op f (across_series left f s))
    else across_unequal op left f s

abbrev pub table_infix : Binary → Shape → Shape → Table → Table → Result Entry FaultValue
table_infix op Series Series a b = series_infix op a b
table_infix op Series Frame a b = across_infix op true b a
table_infix op Frame Series a b = across_infix op false a b
table_infix op Frame Frame a b = frame_infix op a b

abbrev pub infix_result : Binary → Entry → Entry → Result Entry FaultValue
infix_result op (cell a) (cell b) = Err wrong_kind
infix_result op (cell a) (table t) = scalar_infix op true t a
infix_result op (table t) (cell b) = scalar_infix op false t b
infix_result op (table a) (table b) = table_infix op a.shape b.shape a b

-- 0 minus each cell
abbrev pub negated : Entry → Result Entry FaultValue
negated (cell c) = Err wrong_kind
negated (table t) = scalar_infix sub true t (int_cell (pos 0))

abbrev pub is_boolean : Kind → Bool
is_boolean Boolean = true
is_boolean kind = false

abbrev pub is_truth_column : ColumnOf CellValue → Bool
is_truth_column c = is_boolean c.kind

abbrev pub inverted_column : ColumnOf CellValue → Result (ColumnOf CellValue) FaultValue
inverted_column c = made_column (invert_column (value_of_column c))

-- each truth value turned
abbrev pub inverted : Entry → Result Entry FaultValue
inverted (cell c) = Err wrong_kind
inverted (table t) =
    if list_all is_truth_column t.columns
    then (if within_limits (length t.labels) (length t.columns) then then_value (try_all inverted_column t.columns) (λ columns. Ok (table (with_columns t columns))) else Err limit)
    else Err wrong_kind

-- `-x` where this is so, else `~x`
abbrev pub sign_result : Bool → Entry → Result Entry FaultValue
sign_result true v = negated v
sign_result false v = inverted v
