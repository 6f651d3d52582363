-- What selections, constructors and methods share: columns by their labels, the scalars of a list, and the length of a
-- value.
use Rattle.std.specs.Prelude.{ℕ, suc, pos, nat_eq, nat_lt, not, List, [], ◌∷◌, map, filter, find, length, slice_index_or, Option, Some, None, option_map, Result, Ok, Err, if◌then◌else◌}
use Rattle.std.specs.List.{list_any, range_with_len}
use Rattle.std.specs.Int.{int_wrap, w64}
use Rattle.meaning_tables.specs.cells.Cell.{CellValue, int_cell, LabelValue}
use Rattle.meaning_tables.specs.cells.Operator.{cell_label}
use Rattle.meaning_tables.specs.cells.Fault.{FaultValue, wrong_kind, no_key, then_value}
use Rattle.meaning_tables.specs.Table.{Table, column_at}
use Rattle.meaning_tables.specs.Value.{Entry, cell, table, GivenList, nothing, one, row, many, entries, no_given, more_given}
use Rattle.meaning_align.specs.pick.Rows.{rows_where}
use Rattle.meaning_form.specs.Finish.{same_heading, unless_repeated, try_all}

-- the place of the first column with the label
abbrev pub place_of_label : List (Option LabelValue) → LabelValue → Option ℕ
place_of_label [] l = None
place_of_label (h ∷ hs) l = if same_heading (Some l) h then Some 0 else option_map suc (place_of_label hs l)

-- the place that was found for a label, or a KeyError
abbrev pub found : LabelValue → Option ℕ → Result ℕ FaultValue
found l None = Err (no_key (l ∷ []))
found l (Some place) = Ok place

-- the places of all columns with the label
abbrev pub places_of_label : List (Option LabelValue) → LabelValue → List ℕ
places_of_label hs l = rows_where (same_heading (Some l)) 0 hs

-- Several columns may have one label. A label that selects, in brackets, `loc`, `del` and `drop`, is all of them. A label that
-- is an argument, as in `by`, `keys`, `subset` and `on`, is one column: it is refused where several have it.

-- the first column of a label, and of each of these labels, or the first one that no column has
abbrev pub first_column : Table → LabelValue → Result ℕ FaultValue
first_column t l = found l (place_of_label t.headings l)

abbrev pub first_columns : Table → List LabelValue → Result (List ℕ) FaultValue
first_columns t ls = try_all (first_column t) ls

-- the first of these labels that several columns have
abbrev pub label_of_several : Table → List LabelValue → Option LabelValue
label_of_several t ls = find (λ l. nat_lt 1 (length (places_of_label t.headings l))) ls

abbrev pub unless_several : {A : Type 0} → Table → List LabelValue → Result A FaultValue → Result A FaultValue
unless_several t ls rest = unless_repeated (label_of_several t ls) rest

-- the columns that these labels name as an argument: none of them is absent, and then none has several columns
abbrev pub argument_columns : Table → List LabelValue → Result (List ℕ) FaultValue
argument_columns t ls = then_value (first_columns t ls) (λ places. unless_several t ls (Ok places))

abbrev pub argument_column : Table → LabelValue → Result ℕ FaultValue
argument_column t l = then_value (first_column t l) (λ place. unless_several t (l ∷ []) (Ok place))

abbrev pub all_places : Table → List ℕ
all_places t = range_with_len 0 (length t.columns)

-- the columns at no place of these
abbrev pub places_besides : Table → List ℕ → List ℕ
places_besides t places = filter (λ place. not (list_any (nat_eq place) places)) (all_places t)

abbrev pub heading_at : Table → ℕ → Option LabelValue
heading_at t place = slice_index_or t.headings place None

-- the frame of the columns at these places
abbrev pub columns_frame : Table → List ℕ → Table
columns_frame t places = record t { headings = map (heading_at t) places; columns = map (column_at t.columns) places }

-- the scalars among the parts of a list
abbrev pub cells_of : GivenList → List CellValue
cells_of no_given = []
cells_of (more_given (one (cell c)) rest) = c ∷ cells_of rest
cells_of (more_given (one (table t)) rest) = cells_of rest
cells_of (more_given nothing rest) = cells_of rest
cells_of (more_given (row parts) rest) = cells_of rest
cells_of (more_given (many parts) rest) = cells_of rest
cells_of (more_given (entries pairs) rest) = cells_of rest

abbrev pub labels_of : GivenList → List LabelValue
labels_of parts = map cell_label (cells_of parts)

-- the number of rows, as a whole number of 64 bits; a scalar has none
abbrev pub length_result : Entry → Result Entry FaultValue
length_result (cell c) = Err wrong_kind
length_result (table t) = Ok (cell (int_cell (int_wrap w64 (pos (length t.labels)))))
