-- Cells that are set: the table that a target grows, with the values.
use Rattle.{frame_parts.proofs.Common.{◌∙◌, sym, ◌++◌, nat_eq, ◌≡◌, ℕ, zero, suc, ◌+◌, ◌<◌, ◌%◌, ◌/◌, Bool, true, false, List, [], ◌∷◌, length, map, refl, arith, if◌then◌else◌, Option, Some, None, Result, Ok, Err, map-map, get_or_push, length-map, length-set, map-append, map-set, and_parts, nat_tests, get_or-map as get_or-map0, slice_index, slice_index_or, IfOk, columns_part, cells_settled, map-put_at, cells_value, columns_value, labels_value, axis_of, no_column, ColumnOf, NumberedTable, Table, table_value, tuple_value, column_at, IsSettled, with_column, with_values, with_values_from, Cell, Na, Kind, Label, Text, CellValue, LabelValue, datum, label_datum, holds, AreGiven, Accessor, FaultValue, wrong_kind, limit, then_value, within_limits, limited_table, missing_column as missing_value, AxisValue, taken_axis}, column_core.proofs.cells.Common.{option_map, get_or_append_left, get_or-map}, frame_store.specs.tables.Change.{with_cell}, frame_select.proofs.AnswerLaws.{column_seen as seen_column}, frame_set.{specs.{declared.targets.{Reached.{Reached}, Target.{Target}}, Grown.{column_added, grown_table, reached_tuples, row_added, with_gap}, Values.{ArePlacesOf, HasKinds, columns_after, kind_added, kind_there, reached_value, rows_after, target_value}}, proofs.{ColumnLaws.{map-replicate}, GrowLaws.{grown_columns, grown_rows, reached_below}}}}
use Rattle.frame_select.specs.select.Set as meant

-- columns and cells with texts

values_seen : (texts : List Text) (k : ℕ) (columns : List (ColumnOf Cell)) (rows places : List ℕ) (values : List Cell) → with_values_from k (columns_value texts columns) rows places (cells_value texts values) ≡ columns_value texts (with_values_from k columns rows places values)
values_seen _ k _ _ _ [] = refl
values_seen texts k columns rows places (x ∷ xs) = grind (arith, map-set, seen_column, values_seen texts (suc k) (with_cell columns (slice_index places (k % length places)) (slice_index rows (k / length places)) x) rows places xs)

count_kept : (k : ℕ) (columns : List (ColumnOf Cell)) (rows places : List ℕ) (values : List Cell) → length (with_values_from k columns rows places values) ≡ length columns
count_kept k _ _ _ [] = refl
count_kept k columns rows places (x ∷ xs) = search (length-set, count_kept (suc k) (with_cell columns (slice_index places (k % length places)) (slice_index rows (k / length places)) x) rows places xs)

-- the table that a target grows, with texts
gap_seen : (texts : List Text) (cs : List (ColumnOf Cell)) → map meant.with_gap (columns_value texts cs) ≡ columns_value texts (map with_gap cs)
gap_seen = grind (arith, map-map, map-append)

row_seen : (texts : List Text) (t : NumberedTable) (o : Option Label) → meant.with_row (table_value texts t) (option_map (label_datum texts) o) ≡ table_value texts (row_added t o)
row_seen = grind (arith, map-append, gap_seen)

pub taken_reached : {E : Type 0} (t : NumberedTable) (rows : Reached) (r : Result AxisValue E) (axis : AxisValue) → axis ≡ axis_of t → rows.added ≡ None → IfOk r (λ made. made ≡ taken_axis axis rows.places) → IfOk r (λ made. made.tuples ≡ reached_tuples t rows)
taken_reached t _ (Ok made) _ at none is = grind arith
taken_reached t _ (Err e) _ _ _ _ = tt

pub reached_seen : (texts : List Text) (t : NumberedTable) (rows : Reached) → labels_value texts (reached_tuples t rows) ≡ meant.reached_labels (table_value texts t) (reached_value texts rows)
reached_seen texts t rows = map-map (tuple_value texts) _ _ ∙ (λ j. map (λ row. here row j) rows.places)
  where
    here : (row : ℕ) → tuple_value texts (slice_index_or (row_added t rows.added).labels row []) ≡ slice_index_or (meant.with_row (table_value texts t) (option_map (label_datum texts) rows.added)).labels row []
    here row = cc (get_or-map0 (tuple_value texts) (row_added t rows.added).labels row [], row_seen texts t rows.added)

pub reached_settled : (texts : List Text) (t : NumberedTable) (rows : Reached) (tuples : List (List Label)) → tuples ≡ reached_tuples t rows → IsSettled table_value texts t → IsSettled reached_value texts rows → IsSettled labels_value texts tuples
reached_settled texts t rows _ is settled given = rw is (λ more. cc (reached_seen (texts ++ more) t rows, settled more, given more, reached_seen texts t rows))

abbrev column_or : Table → Option LabelValue → Kind → Table
column_or t None kind = t
column_or t (Some l) kind = with_column t (length t.columns) (Some l) (missing_value kind (length t.labels))

column_seen : (texts : List Text) (u : NumberedTable) (o : Option Label) (kind : Kind) → column_or (table_value texts u) (option_map (label_datum texts) o) kind ≡ table_value texts (column_added u o kind)
column_seen _ u None _ = refl
column_seen _ u (Some l) _ = search (length-map, map-replicate, map-put_at)

pub grown_settled : (texts : List Text) (t : NumberedTable) (target : Target) (kind : Kind) → IsSettled table_value texts t → IsSettled target_value texts target → IsSettled table_value texts (grown_table t target kind)
grown_settled _ t _ _ settled given more = grind (arith, row_seen, column_seen, settled more, given more)

-- what is tested of it
pub none_seen : {A B : Type 0} (f : A → B) (xs : List A) → meant.has_none (map f xs) ≡ nat_eq (length xs) 0
none_seen f [] = refl
none_seen f (x ∷ xs) = grind (arith, nat_tests)

abbrev pub cells_then : Table → meant.Target → meant.SetValue → List CellValue → Result Table FaultValue
cells_then t target value = λ values. then_value (meant.with_new_column (meant.with_row t target.rows.added) target.columns.added value) (λ grown. meant.filled_table grown target.rows.places target.columns.places values)

pub not_lacking : (texts : List Text) (t : NumberedTable) (target : Target) (by : Accessor) (value : meant.SetValue) (b : Bool) → b ≡ meant.lacks_columns (table_value [] t) (target_value [] target) → b ≡ false
    → meant.target_set by (table_value texts t) value (target_value texts target) ≡ then_value (meant.values_for by (table_value texts t) (target_value texts target) value) (cells_then (table_value texts t) (target_value texts target) value)
not_lacking = grind (arith, none_seen)

limits_seen : (texts : List Text) (t : NumberedTable) (target : Target) (kind : Kind) (rows places : List ℕ) (values : List Cell)
    → limited_table (with_values (table_value texts (grown_table t target kind)) rows places (cells_value texts values))
    ≡ (if within_limits (rows_after t target) (columns_after t target) then Ok (table_value texts (with_values (grown_table t target kind) rows places values)) else Err limit)
limits_seen = search (values_seen, length-map, grown_rows, count_kept, grown_columns)

module _ (texts : List Text) (t : NumberedTable) (target : Target) (by : Accessor) (value : meant.SetValue) (b : Bool) (kind : Kind) (values : List Cell) (is : b ≡ meant.lacks_columns (table_value [] t) (target_value [] target)) (not : b ≡ false)
    (given : meant.values_for by (table_value texts t) (target_value texts target) value ≡ Ok (cells_value texts values)) (made : kind_added target.columns.added value ≡ Ok kind) where
  abbrev grown : NumberedTable
  grown = grown_table t target kind

  abbrev set : Result Table FaultValue
  set = meant.target_set by (table_value texts t) value (target_value texts target)

  abbrev fits : Bool
  fits = meant.fit_from 0 (table_value texts grown) target.columns.places (cells_value texts values)

  set_filled : set ≡ meant.filled_table (table_value texts grown) target.rows.places target.columns.places (cells_value texts values)
  set_filled = grind (arith, not_lacking texts t target by value b is not, row_seen, column_seen)

  pub set_misfits : fits ≡ false → set ≡ Err wrong_kind
  set_misfits other = cc set_filled

  pub set_beyond : fits ≡ true → within_limits (rows_after t target) (columns_after t target) ≡ false → set ≡ Err limit
  set_beyond = grind (arith, set_filled, limits_seen texts t target kind target.rows.places target.columns.places values)

  pub set_within : fits ≡ true → within_limits (rows_after t target) (columns_after t target) ≡ true → set ≡ Ok (table_value texts (with_values grown target.rows.places target.columns.places values))
  set_within = grind (arith, set_filled, limits_seen texts t target kind target.rows.places target.columns.places values)

pub set_given : (texts : List Text) (t : NumberedTable) (rows places : List ℕ) (values : List Cell) → IsSettled table_value texts t → AreGiven texts values → IsSettled table_value texts (with_values t rows places values)
set_given _ t rows places values settled given = λ more.
    let columns =
    sym (values_seen _ 0 _ _ _ values)
    ∙ (λ j. with_values_from 0 (columns_part _ t settled more j) rows places (cells_settled _ _ given more j))
    ∙ values_seen _ 0 _ _ _ values in
    λ j. record (settled more j) { columns = columns j }

-- the kinds of the columns that are reached

grown_kind : (t : NumberedTable) (target : Target) (kind : Kind) (place : ℕ) → place < columns_after t target → (column_at (grown_table t target kind).columns place).kind ≡ kind_there t place kind
grown_kind t _ _ place = grind (arith, nat_tests, get_or_push, get_or_append_left, get_or-map with_gap t.columns place no_column, length-map)

pub has_kinds : (texts : List Text) (t : NumberedTable) (target : Target) (kind : Kind) → ArePlacesOf (length t.columns) target.columns.places target.columns.added → HasKinds (table_value texts (grown_table t target kind)) t kind target.columns.places
has_kinds = search (seen_column, grown_kind, reached_below)

-- each value is held by its column

fit_each : (texts : List Text) (grown : Table) (places : List ℕ) (values : List Cell) (j k : ℕ) → meant.fit_from j grown places (cells_value texts values) ≡ true → k < length values
    → holds (column_at grown.columns (slice_index places ((j + k) % length places))).kind (datum texts (slice_index_or values k Na)) ≡ true
fit_each _ _ _ [] j k fits lt = search
fit_each _ _ _ (x ∷ xs) j zero fits lt = grind (arith, and_parts)
fit_each texts grown places (x ∷ xs) j (suc k) fits lt = grind (arith, fit_each texts grown places xs (suc j) k (and_parts (holds (column_at grown.columns (slice_index places (j % length places))).kind (datum texts x)) _ fits).1 (omega (arith, lt)))

pub fit_held : (texts : List Text) (grown : NumberedTable) (places : List ℕ) (values : List Cell) (k : ℕ) → meant.fit_from 0 (table_value texts grown) places (cells_value texts values) ≡ true → k < length values
    → holds (column_at grown.columns (slice_index places (k % length places))).kind (datum texts (slice_index_or values k Na)) ≡ true
fit_held texts grown places values k fits lt =
    grind (arith, seen_column texts grown.columns (slice_index places (k % length places)), fit_each texts (table_value texts grown) places values 0 k fits lt)
