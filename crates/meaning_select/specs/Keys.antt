-- The keys that stand in brackets and behind accessors, and the rows and columns of a table that they pick.
-- A key's form is tested before any label or position is looked up, and the row key whole before the column key.
use Rattle.std.specs.Prelude.{ℕ, ℤ, nat_eq, nat_lt, nat_le, not, ◌&&◌, Bool, true, false, List, [], ◌∷◌, map, length, slice_index_or, Option, Some, None, Result, Ok, Err, if◌then◌else◌}
use Rattle.std.specs.List.{range_with_len}
use Rattle.meaning_form.specs.cell_core.declared.grid.Shape.{Shape}
use Rattle.meaning_form.specs.cell_core.declared.grid.Shape.TheVariants.{Series, Frame}
use Rattle.meaning_form.specs.cells.Cell.{CellValue, na_cell, int_cell, LabelValue, label_cmp}
use Rattle.meaning_form.specs.cells.Operator.{cell_label}
use Rattle.meaning_form.specs.cells.Symbol.{Accessor, loc, iloc, at, iat}
use Rattle.meaning_form.specs.cells.Fault as fault
use Rattle.meaning_form.specs.cells.Fault.{FaultValue, wrong_kind, no_key, bad_value, repeated, argument, then_value}
use Rattle.meaning_form.specs.tables.Table.{Table, column_at, rows_of}
use Rattle.meaning_form.specs.tables.Value.{cell, table, Given, GivenList, GivenSub, no_given, more_given, nothing, one, row, many, key_given, span_given, scalar_in}
use Rattle.meaning_form.specs.Given.{each, is_scalar, is_frame, is_tuple_of, count_of, same_label}
use Rattle.meaning_form.specs.Finish.{try_all, column_labels}
use Rattle.meaning_form.specs.Infix.{same_tuple, is_boolean}
use Rattle.meaning_form.specs.Select.{cells_of, labels_of}
use Rattle.meaning_form.specs.pick.Faults.{PickFault, not_there, bound_not_unique, out_of_range, no_mask_label, step_zero}
use Rattle.meaning_form.specs.pick.Keys.{LabelKey, all_rows, one_key, each_key, between, PlaceKey, one_place, each_place, place_slice, Pick, listed_pick, sliced_pick, single_pick, picked_by_label, picked_by_place}
use Rattle.meaning_form.specs.pick.Masks.{is_kept, masked_rows}

-- a tuple of scalars: one, and at most as many as there are levels
abbrev pub is_tuple_within : ℕ → GivenList → Bool
is_tuple_within levels parts = each is_scalar parts && nat_lt 0 (count_of parts) && nat_le (count_of parts) levels

abbrev pub tuple_label : ℕ → GivenList → Result (List LabelValue) FaultValue
tuple_label levels parts = if is_tuple_within levels parts then Ok (labels_of parts) else Err wrong_kind

-- an end of a slice of labels: left out, a scalar, or a tuple
abbrev pub label_bound : ℕ → Given → Result (Option (List LabelValue)) FaultValue
label_bound levels nothing = Ok None
label_bound levels (one (cell c)) = Ok (Some (cell_label c ∷ []))
label_bound levels (row parts) = then_value (tuple_label levels parts) (λ l. Ok (Some l))
label_bound levels g = Err wrong_kind

-- an item of a list of keys: a scalar on one level, and on several a tuple with a label for each
abbrev pub whole_item : ℕ → Given → Result (List LabelValue) FaultValue
whole_item levels (one (cell c)) = if nat_eq levels 1 then Ok (cell_label c ∷ []) else Err wrong_kind
whole_item levels (row parts) = if nat_lt 1 levels && is_tuple_of levels (row parts) then Ok (labels_of parts) else Err wrong_kind
whole_item levels g = Err wrong_kind

abbrev pub whole_items : ℕ → GivenList → Result (List (List LabelValue)) FaultValue
whole_items levels no_given = Ok []
whole_items levels (more_given g rest) = then_value (whole_item levels g) (λ key. then_value (whole_items levels rest) (λ keys. Ok (key ∷ keys)))

-- a slice by labels: all rows where both ends are left out
abbrev pub span_between : Option (List LabelValue) → Option (List LabelValue) → LabelKey (List LabelValue)
span_between None None = all_rows
span_between lower upper = between lower upper

abbrev pub label_span : ℕ → Given → Given → Result (LabelKey (List LabelValue)) FaultValue
label_span levels from to = then_value (label_bound levels from) (λ lower. then_value (label_bound levels to) (λ upper. Ok (span_between lower upper)))

-- a key by label: a scalar or a tuple, a list, or a slice, which has no step
abbrev pub label_key : ℕ → GivenSub → Result (LabelKey (List LabelValue)) FaultValue
label_key levels (key_given (one (cell c))) = Ok (one_key (cell_label c ∷ []))
label_key levels (key_given (row parts)) = then_value (tuple_label levels parts) (λ l. Ok (one_key l))
label_key levels (key_given (many parts)) = then_value (whole_items levels parts) (λ keys. Ok (each_key keys))
label_key levels (span_given from to nothing) = label_span levels from to
label_key levels k = Err wrong_kind

-- an end or the step of a slice by position: left out, or a whole number
abbrev pub place_bound : Given → Result (Option ℤ) FaultValue
place_bound nothing = Ok None
place_bound (one (cell (int_cell z))) = Ok (Some z)
place_bound g = Err wrong_kind

-- a list of whole numbers alone
abbrev pub whole_cell : CellValue → Result ℤ FaultValue
whole_cell (int_cell z) = Ok z
whole_cell c = Err wrong_kind

abbrev pub positions_in : GivenList → Result (List ℤ) FaultValue
positions_in parts = if each is_scalar parts then try_all whole_cell (cells_of parts) else Err wrong_kind

-- a key by position: a whole number, a list of them, or a slice
abbrev pub place_key : GivenSub → Result PlaceKey FaultValue
place_key (key_given (one (cell (int_cell z)))) = Ok (one_place z)
place_key (key_given (many parts)) = then_value (positions_in parts) (λ zs. Ok (each_place zs))
place_key (span_given from to by) = then_value (place_bound from) (λ first. then_value (place_bound to) (λ end. then_value (place_bound by) (λ step. Ok (place_slice first end step))))
place_key k = Err wrong_kind

-- why a key picks nothing, as the fault of a form
abbrev pub fault_of_pick : PickFault (List LabelValue) → FaultValue
fault_of_pick (not_there key) = no_key key
fault_of_pick (bound_not_unique key) = no_key key
fault_of_pick (out_of_range z count) = fault.out_of_range z count
fault_of_pick (no_mask_label key) = fault.no_mask_label key
fault_of_pick step_zero = bad_value argument

abbrev pub found_pick : {A : Type 0} → Result A (PickFault (List LabelValue)) → Result A FaultValue
found_pick (Ok a) = Ok a
found_pick (Err why) = Err (fault_of_pick why)

-- what a key picks by label among rows of so many levels, and by position among so many rows
abbrev pub found_labels : ℕ → List (List LabelValue) → LabelKey (List LabelValue) → Result Pick FaultValue
found_labels levels tuples key = found_pick (picked_by_label same_label label_cmp levels tuples key)

abbrev pub label_pick : ℕ → List (List LabelValue) → GivenSub → Result Pick FaultValue
label_pick levels tuples k = then_value (label_key levels k) (found_labels levels tuples)

abbrev pub place_pick : ℕ → GivenSub → Result Pick FaultValue
place_pick count k = then_value (place_key k) (λ key. found_pick (picked_by_place count key))

-- a boolean Series is a mask, and each of its rows says whether it is True
abbrev pub is_mask : Table → Bool
is_mask m = not (is_frame m.shape) && is_boolean (column_at m.columns 0).kind

abbrev pub marks_of : Table → List Bool
marks_of m = map (λ r. is_kept (slice_index_or r.cells 0 na_cell)) (rows_of na_cell m)

-- it picks the rows at which it is True, found by position or by all labels of a row
abbrev pub mask_pick : Table → Table → Result Pick FaultValue
mask_pick t m =
    if is_mask m
    then then_value (found_pick (masked_rows same_tuple t.labels m.labels (marks_of m))) (λ rows. Ok (listed_pick rows))
    else Err wrong_kind

-- rows by label, and columns by label, of which no tuple names one
abbrev pub loc_rows : Table → GivenSub → Result Pick FaultValue
loc_rows t (key_given (one (table m))) = mask_pick t m
loc_rows t k = label_pick (length t.level_names) t.labels k

abbrev pub loc_columns : Table → GivenSub → Result Pick FaultValue
loc_columns t (key_given (row parts)) = Err wrong_kind
loc_columns t k = label_pick 1 (column_labels t) k

-- the columns of a label, or of each in a list, one after the other
abbrev pub label_columns : Table → LabelKey (List LabelValue) → Result (List ℕ) FaultValue
label_columns t key = then_value (found_labels 1 (column_labels t) key) (λ p. Ok p.rows)

-- the labels of a key of `at` or `iat`: a scalar, or a tuple with a label for each level, and no list, slice or mask
abbrev pub whole_key : ℕ → GivenSub → Result (List LabelValue) FaultValue
whole_key levels (key_given (one (cell c))) = if nat_eq levels 1 then Ok (cell_label c ∷ []) else Err wrong_kind
whole_key levels (key_given (row parts)) = if is_tuple_of levels (row parts) then Ok (labels_of parts) else Err wrong_kind
whole_key levels k = Err wrong_kind

-- the row or the column of a key of `at`, which must stand there once
abbrev pub once : List LabelValue → Pick → Result Pick FaultValue
once key p = if p.single then Ok p else Err (bad_value (repeated key))

abbrev pub at_rows : Table → GivenSub → Result Pick FaultValue
at_rows t k = then_value (whole_key (length t.level_names) k) (λ key. then_value (found_labels (length t.level_names) t.labels (one_key key)) (once key))

-- what a key of `iat` picks among so many
abbrev pub iat_pick : ℕ → GivenSub → Result Pick FaultValue
iat_pick count k = then_value (whole_key 1 k) (λ key. place_pick count k)

-- the rows and the columns that the keys of an accessor pick
abbrev pub rows_by : Accessor → Table → GivenSub → Result Pick FaultValue
rows_by loc t k = loc_rows t k
rows_by iloc t k = place_pick (length t.labels) k
rows_by at t k = at_rows t k
rows_by iat t k = iat_pick (length t.labels) k

abbrev pub columns_by : Accessor → Table → GivenSub → Result Pick FaultValue
columns_by loc t k = loc_columns t k
columns_by iloc t k = place_pick (length t.columns) k
columns_by at t k = then_value (whole_key 1 k) (λ key. then_value (loc_columns t k) (once key))
columns_by iat t k = iat_pick (length t.columns) k

-- two scalars as the keys of a Series are one tuple, in `loc` and `at` on several levels
abbrev pub takes_tuple : Accessor → Bool
takes_tuple loc = true
takes_tuple at = true
takes_tuple by = false

abbrev pub scalar_of_key : GivenSub → Option CellValue
scalar_of_key (key_given g) = scalar_in g
scalar_of_key (span_given from to by) = None

abbrev pub pair_key : Option CellValue → Option CellValue → Result GivenSub FaultValue
pair_key (Some a) (Some b) = Ok (key_given (row (more_given (one (cell a)) (more_given (one (cell b)) no_given))))
pair_key a b = Err wrong_kind

abbrev pub joined_key : Accessor → ℕ → GivenSub → GivenSub → Result GivenSub FaultValue
joined_key by levels first second = if takes_tuple by && nat_lt 1 levels then pair_key (scalar_of_key first) (scalar_of_key second) else Err wrong_kind

abbrev pub rows_by_two : Accessor → Table → GivenSub → GivenSub → Result Pick FaultValue
rows_by_two by t first second = then_value (joined_key by (length t.level_names) first second) (rows_by by t)

-- all rows, all columns, and the one column of a Series, which is single
abbrev pub all_rows_of : Table → Pick
all_rows_of t = sliced_pick (range_with_len 0 (length t.labels))

abbrev pub all_columns : Table → Pick
all_columns t = sliced_pick (range_with_len 0 (length t.columns))

abbrev pub only_column : Pick
only_column = single_pick 0

-- rows and columns that are picked together
pub record Reach : Type 0 where
  pub rows : Pick
  pub columns : Pick

abbrev pub reach_of : Result Pick FaultValue → Result Pick FaultValue → Result Reach FaultValue
reach_of rows columns = then_value rows (λ r. then_value columns (λ c. Ok record { rows = r; columns = c }))

-- the columns of a frame may be left out in `loc` and `iloc`, where the key isn't a tuple
abbrev pub may_stand_alone : Accessor → GivenSub → Bool
may_stand_alone at k = false
may_stand_alone iat k = false
may_stand_alone by (key_given (row parts)) = false
may_stand_alone by k = true

-- what an accessor's keys reach: one key or the labels of a tuple on a Series, one or two on a frame
abbrev pub reach_by : Shape → Accessor → Table → GivenSub → Option GivenSub → Result Reach FaultValue
reach_by Series by t k None = reach_of (rows_by by t k) (Ok only_column)
reach_by Series by t k (Some other) = reach_of (rows_by_two by t k other) (Ok only_column)
reach_by Frame by t k None = if may_stand_alone by k then reach_of (rows_by by t k) (Ok (all_columns t)) else Err wrong_kind
reach_by Frame by t k (Some other) = reach_of (rows_by by t k) (columns_by by t other)
