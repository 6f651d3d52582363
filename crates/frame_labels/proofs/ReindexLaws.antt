-- The rows, or the columns, of the labels in a list, and tables under another axis.
use Rattle.{frame_parts.proofs.Common.{◌≡◌, ◌∙◌, refl, arith, ℕ, zero, suc, ◌+◌, ◌<◌, true, false, List, [], ◌∷◌, ◌++◌, map, length, take, replicate, slice_index_or, All, Option, Some, None, Result, Ok, Err, set, get_or, length-map, length-replicate, map-append, take_more, take_more_set, All-map, get_or_from_slice_get, Bor, IsSome, slice_get, range_with_len, Cell, Na, Label, Shape, Frame, CellBlock, CellColumn, IsPlaceOf, LabelValue, na_cell, datum, FaultValue, limit, Text, AxisValue, HaveLevels, nameless_axis, met_rows, reindexed, IsSettled, NumberedTable, Table, table_value, heading_value, tuple_value, column_value, no_column, ColumnOf, column_at, IsWhole, with_labels, within_limits, limited, same_tuple, on_rows, MakesBy, on_rows_seen, refused_on, items_of, Tables, HeadingList, columns_of, headings_of, table_column, table_with, labels_value, headings_value, columns_value, Makes, IsKnownTable, Item, OpFault, headings_part}, column_core.proofs.CellRows.{map-map}, frame_select.{specs.select.{Keys.{whole_items}, Select.{row_name}}, proofs.{AnswerLaws.{column_seen}, PickedLaws.{list_is}}}, meaning_method.specs.Reindex.{rows_at, rows_reindexed, column_or_missing, columns_at, columns_reindexed}, frame_labels.{specs.{Labels.{column_tuple}, Reindexed.{heading_of, list_lent}}, proofs.ColumnLabelLaws.{tuples_seen}}}
use Rattle.cell_core.specs.declared.cell.Label.TheVariants as label
pub use Rattle.frame_select.proofs.TakeLaws.{one_more_single}

-- labels of rows, and a row or a gap for each
abbrev pub Tuples : Type 0
Tuples = List (List Label)

abbrev pub Gaps : Type 0
Gaps = List (Option ℕ)

-- the row of each label, or a gap
abbrev pub found : List Text → Tuples → Tuples → Result (Gaps) FaultValue
found texts keys labels = met_rows (reindexed same_tuple (labels_value texts keys) (labels_value texts labels))

-- the labels of a list, which were given where its items were
pub keys_given : (live : Tables) (texts : List Text) (levels : ℕ) (items : List Item) (keys : Tuples) → ((texts : List Text) → whole_items levels (items_of live texts items) ≡ Ok (labels_value texts keys))
    → IsSettled (items_of live) texts items → IsSettled labels_value texts keys
keys_given = grind arith

-- rows at labels, with texts
rows_seen : (texts : List Text) (t : NumberedTable) (labels : Tuples) (rows : Gaps) → table_value texts (rows_at Na t labels rows) ≡ rows_at na_cell (table_value texts t) (labels_value texts labels) rows
rows_seen = search on_rows_seen

rows_settled : (texts : List Text) (t : NumberedTable) (labels : Tuples) (rows : Gaps) → IsKnownTable texts t → IsSettled labels_value texts labels → IsSettled table_value texts (rows_at Na t labels rows)
rows_settled texts t labels rows known given = λ more. cc (rows_seen (texts ++ more) t labels rows, rows_seen texts t labels rows, known.given more, given more)

pub rows_made : (t : NumberedTable) (labels : Tuples) (rows : Gaps) (shape : Shape) (axis : AxisValue) (headings : HeadingList) (blocks : List CellBlock)
    → shape ≡ t.shape → axis ≡ record { tuples = labels; names = t.level_names } → headings ≡ headings_of t → columns_of blocks ≡ on_rows Na rows t.columns → table_with shape axis headings (columns_of blocks) ≡ rows_at Na t labels rows
rows_made t _ _ _ _ _ _ shaped under headed columns = search

pub rows_whole : (t : NumberedTable) (labels : Tuples) (rows : Gaps) → IsWhole t → length rows ≡ length labels → IsWhole (rows_at Na t labels rows)
rows_whole t labels rows whole count = record {
  headed = search length-map;
  filled = All-map (λ c. length c.cells ≡ length labels) _ t.columns (λ k d lt. length-map rows _ ∙ count);
  headings = whole.headings;
}

module _ (texts : List Text) (t : NumberedTable) (labels : Tuples) (rows : Gaps) (met : found texts t.labels labels ≡ Ok rows) (count : length rows ≡ length labels) where
  abbrev T : Table
  T = table_value texts t

  abbrev L : List (List LabelValue)
  L = labels_value texts labels

  pub rows_answer : (made : NumberedTable) → within_limits (length rows) (length t.columns) ≡ true → IsKnownTable texts t → IsSettled labels_value texts labels → made ≡ rows_at Na t labels rows
      → Makes texts (Ok made) (rows_reindexed T L)
  rows_answer = grind (arith, length-map, rows_seen, rows_settled)

-- labels of columns
heading_seen : (texts : List Text) (tuple : List Label) → heading_value texts (heading_of tuple) ≡ row_name (tuple_value texts tuple)
heading_seen = grind arith

headings_seen : (texts : List Text) (labels : Tuples) → headings_value texts (map heading_of labels) ≡ map row_name (labels_value texts labels)
headings_seen texts labels = simp (map-map, heading_seen)

pub own_labels_given : (texts : List Text) (t : NumberedTable) → IsSettled table_value texts t → IsSettled labels_value texts (map column_tuple t.headings)
own_labels_given texts t settled = λ more. cc (tuples_seen (texts ++ more) t.headings, tuples_seen texts t.headings, headings_part texts t settled more)

-- columns, and missing ones
missing_seen : (texts : List Text) (n : ℕ) → map (datum texts) (replicate n Na) ≡ replicate n na_cell
missing_seen _ zero = refl
missing_seen texts (suc n) = cc (missing_seen texts n)

column_there : (texts : List Text) (t : NumberedTable) (place : Option ℕ) → column_value texts (column_or_missing Na t place) ≡ column_or_missing na_cell (table_value texts t) place
column_there _ t None = search (missing_seen, length-map)
column_there _ t (Some place) = search column_seen

columns_there : (texts : List Text) (t : NumberedTable) (places : Gaps) → columns_value texts (map (column_or_missing Na t) places) ≡ map (column_or_missing na_cell (table_value texts t)) places
columns_there texts t places = simp (map-map, column_there)

column_filled : (t : NumberedTable) (place : Option ℕ) → IsWhole t → IsPlaceOf (length t.columns) place → length (column_or_missing Na t place).cells ≡ length t.labels
column_filled = grind (arith, length-replicate)

-- columns at labels, with texts
columns_at_seen : (texts : List Text) (t : NumberedTable) (labels : Tuples) (places : Gaps)
    → table_value texts (columns_at Na t (map heading_of labels) places) ≡ columns_at na_cell (table_value texts t) (map row_name (labels_value texts labels)) places
columns_at_seen = search (headings_seen, columns_there)

columns_at_settled : (texts : List Text) (t : NumberedTable) (labels : Tuples) (places : Gaps) → IsSettled table_value texts t → IsSettled labels_value texts labels
    → IsSettled table_value texts (columns_at Na t (map heading_of labels) places)
columns_at_settled texts t labels places settled given = λ more. cc (columns_at_seen (texts ++ more) t labels places, columns_at_seen texts t labels places, settled more, given more)

module _ (texts : List Text) (t : NumberedTable) (labels : Tuples) (places : Gaps) (own wanted : AxisValue) (owned : own ≡ record { tuples = map column_tuple t.headings; names = t.columns_name ∷ [] }) (asked : wanted ≡ nameless_axis labels 1)
    (placed : record { rows : found texts own.tuples wanted.tuples ≡ Ok places; count : length places ≡ length wanted.tuples; below : All (IsPlaceOf (length own.tuples)) places }) where
  abbrev V : Table
  V = table_value texts t

  abbrev M : List (List LabelValue)
  M = labels_value texts labels

  pub columns_below : IsWhole t → All (IsPlaceOf (length t.columns)) places
  columns_below whole =
      let many : length own.tuples ≡ length t.columns = cc (length-map t.headings column_tuple, whole.headed) in
      rw many at placed.below

  columns_meant : columns_reindexed V M ≡ limited (columns_at na_cell V (map row_name M) places)
  columns_meant = grind (arith, tuples_seen, placed.rows)

  pub columns_beyond : within_limits (length t.labels) (length places) ≡ false → columns_reindexed V M ≡ Err limit
  columns_beyond beyond = grind (arith, columns_meant, length-map)

  pub columns_whole : IsWhole t → t.shape ≡ Frame → HaveLevels 1 labels → IsWhole (columns_at Na t (map heading_of labels) places)
  columns_whole whole frame single =
      let some = All-map IsSome heading_of labels (λ k d lt. grind (arith, single k d lt)) in
      record {
        headed = grind (arith, length-map, placed.count);
        filled = All-map (λ c. length c.cells ≡ length t.labels) (column_or_missing Na t) places (λ k d lt. column_filled t _ whole (columns_below whole k d lt));
        headings = grind (arith, some);
      }

  pub columns_answer : (made : NumberedTable) → made ≡ columns_at Na t (map heading_of labels) places → within_limits (length t.labels) (length places) ≡ true → IsKnownTable texts t → IsSettled labels_value texts labels → Makes texts (Ok made) (columns_reindexed V M)
  columns_answer made is within known given =
      grind (arith, columns_meant, length-map, columns_at_seen texts t labels places, columns_at_settled texts t labels places known.given given)

-- places that aren't found
pub columns_refused : (texts : List Text) (t : NumberedTable) (labels : Tuples) (places : Result (Gaps) OpFault) (fault : OpFault) → places ≡ Err fault
    → MakesBy (λ _ rows. rows) texts places (found texts (map column_tuple t.headings) labels) → Makes texts (Err fault) (columns_reindexed (table_value texts t) (labels_value texts labels))
columns_refused = grind (arith, refused_on, tuples_seen)

-- one column more, and all of them
pub one_more_column : {P : Type 0} (column : P → ColumnOf Cell) (places : List P) (k : ℕ) (place : P) (c : CellColumn) (block : CellBlock) (blocks blocks' : List CellBlock) → k < length places → slice_get places k ≡ Some place
    → table_column c ≡ column place → block ≡ record { kind = c.kind; rows = length c.cells; columns = c.cells ∷ [] } → blocks' ≡ blocks ++ block ∷ []
    → columns_of blocks ≡ map column (take k places) → columns_of blocks' ≡ map column (take (k + 1) places)
one_more_column _ places k place c block blocks _ lt at is boxed pushed before = grind (arith, map-append, take_more places k place lt, get_or_from_slice_get places k place place at)

-- the heading of a row
pub heading_there : (tuple : List Label) (name : Label) → length tuple ≡ 1 → slice_index_or tuple 0 label.Na ≡ name → heading_of tuple ≡ Some name
heading_there = grind arith

-- a list that is lent
pub list_given : (live : Tables) (texts : List Text) (list : Option (Bor (List Item))) (items : Bor (List Item)) → list ≡ Some items → IsSettled (list_lent live) texts list → IsSettled (items_of live) texts items.now
list_given _ _ _ _ is settled = λ more. cc (settled more)

-- names, level by level
pub one_more_name : {X : Type 0} (names made made' : List X) (k : ℕ) (x d : X) → k < length made → k < length names → x ≡ get_or names k d → take k made ≡ take k names → made' ≡ set made k x → take (k + 1) made' ≡ take (k + 1) names
one_more_name = grind (arith, take_more_set, take_more)

-- all columns of a table under another axis
columns_same : (columns : List (ColumnOf Cell)) (places : List ℕ) (count : ℕ) → places ≡ range_with_len 0 count → count ≡ length columns → map (column_at columns) places ≡ columns
columns_same columns _ _ is size =
    cc (is, size, list_is (column_at columns) columns 0 no_column (λ k lt. grind arith))

pub under_table : (t : NumberedTable) (axis : AxisValue) (headings : HeadingList) (places : List ℕ) (count : ℕ) → headings ≡ record { columns_name = t.columns_name; labels = t.headings } → places ≡ range_with_len 0 count → count ≡ length t.columns
    → table_with t.shape axis headings (map (column_at t.columns) places) ≡ with_labels t axis.tuples axis.names
under_table = grind (arith, columns_same)
