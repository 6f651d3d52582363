-- Series of scalars.
use mathlib.Core.Former.{Count}
use Rattle.{frame_parts.{proofs.Common.{column_seen, ◌≡◌, refl, ℕ, zero, suc, List, ◌++◌, length, replicate, Option, None, Result, Ok, Err, arith, ◌+◌, [], ◌∷◌, drop, slice_get, add-one, Some, All, ◌<◌, ap, Bool, get_or, append_assoc, ◌≤◌, sym, map, ◌∙◌, true, false, if◌then◌else◌, length-map, map-append, length-map-range_with_len, All-nil, All-cons, All-map, All-tail, All-push, All-head, nat_tests, slice_get_within, get_or_from_slice_get, slice_get-get_or, drop-cons, IfOk, keys_of, option_map, list_all, Kind, Label, Cell, Frame, AreDistinct, Text, CellValue, LabelValue, AreGiven, IsLonger, label_datum, datum, FaultValue, then_value, bad_value, limit, wrong_kind, cell_label, AxisValue, nameless_axis, range_axis, single_tuples, CellColumn, CellBlock, IsSettled, ColumnOf, NumberedTable, Table, table_value, heading_value, tuple_value, Entry, table, Given, scalar_in, GivenList, many, list_in, dict_in, AreHeadings, IsWhole, limited, try_all, within_limits, list_column, with_pair, pairs_onto, pairs_in, cells_of, labels_of, MakesBy, block_value, blocks_value, refused_on, same_by_number, Item, Row' as RowItem', Row_of-Item, end_of-Item, more_of-Item, Argument, Many, Object, Scalar, Named, OpFault, headings_value, Makes, labels_value, columns_of, IsSingle, HaveRows, single_block, table_column, HeadingList, table_of, Tables, entries_of, item_of, items_of, items_row, argument_of, arguments_of, World, arguments_in, AreKnownArguments, seen_later, cells_settled, longer_twice}, specs.form.Make.{cast_to, nameless, series_table, row_labels, index_labels, AreAlike, level_count, few_levels, frame_table, is_scalar_list, cells_given, all_of_length, frame_of, kind_given}}, column_core.{proofs.cells.Common.{OnOk}, specs.cells.Fault.{length_of}}, std.{proofs.{Common.{Bor}, lemmas.{List.Elements.{All-rest}, Option.{slice_get_cases}}}, specs.{Map.{values_of}}}, cell_core.specs.contracts.cell.LabelPartialEq.TheImpl.{eq-value}, frame_store.specs.{tables.Value.{tuple_in}, declared.arguments.Item.{One as OneItem}, Parts.{AreBelow}}, meaning_call.{specs.{Binding.{each, is_scalar}, declared.Parameter.{Parameter}, Signature.{function_parameters}, Functions.{series_call, frame_call}}, proofs.IndexLaws.{GivesAlike, index_taken}}, frame_signatures.{specs.{Scalars.{scalars}, Bound.{stands_at, Tells, IsBound}, declared.bound.Bound.{Bound}}, proofs.{ScalarLaws.{scalars_are, items_settled}, ToldLaws.{some_same, told_settled, name_given}}}, frame_make.specs.{Index.{index_given, IsUnnamed, rows_labels, GivesLevels}, Scalars.{made_series}, Made.{axis_labels, labels_within, indexed, series_with, same_rows, common_rows, labels_for, listed_labels, free_labels, frame_labels, frame_with, frame_from}, Pairs.{AreSettledKeys, AreSettledLabels, value_in, entries_seen, list_seen, lists_seen, listed_column, scalars_in, key_headings, AreSettledLists}}, multi_index.proofs.index_core.NumberLaws.{label_decides}, indexmap.specs.IndexMap.{insert_entry}}
use Rattle.frame_make.specs.Made as meant
use Rattle.frame_parts.specs.form.Make as make
use Rattle.meaning_call.specs.declared.Function.TheVariants as function
use Rattle.meaning_call.specs.declared.Accepted.TheVariants as accepted

-- the labels of each row, and those of an index if there is one
abbrev pub Rows : Type 0
Rows = List (List LabelValue)

abbrev pub Index : Type 0
Index = Option Rows

pub labels_count : (rows columns : ℕ) (index : Index) (made : Rows) → meant.index_labels rows columns index ≡ Ok made → length made ≡ rows
labels_count = grind (arith, nat_tests, length-map-range_with_len)

pub axis_count : (texts : List Text) (rows columns : ℕ) (index : Index) (axis : AxisValue) → meant.index_labels rows columns index ≡ Ok (axis_labels texts axis) → rows ≡ length axis.tuples
axis_count = grind (arith, labels_count, length-map)

-- a table that goes on with the labels of its rows, unless it is beyond the limits
abbrev pub labels_then : (Rows → Table) → Result Rows FaultValue → Result Entry FaultValue
labels_then go r = then_value r (λ labels. Ok (table (go labels)))

pub limited_labels : (rows columns : ℕ) (go : Rows → Table) (labels : Rows) → length (go labels).labels ≡ rows → length (go labels).columns ≡ columns → limited (go labels) ≡ labels_then go (labels_within rows columns labels)
limited_labels = grind arith

pub indexed_within : (rows columns : ℕ) (index : Index) (go : Rows → Table) → ((labels : Rows) → (go labels).labels ≡ labels) → ((labels : Rows) → length (go labels).columns ≡ columns)
    → indexed rows index (λ labels. limited (go labels)) ≡ labels_then go (meant.index_labels rows columns index)
indexed_within = grind (arith, nat_tests, limited_labels, length-map-range_with_len)

-- levels without names, as they are seen
module _ (texts : List Text) where
  missing_names : (n : ℕ) → headings_value texts (replicate n None) ≡ replicate n None
  missing_names zero = refl
  missing_names (suc n) = cc (missing_names n)

  pub names_seen : (axis : AxisValue) → IsUnnamed axis → headings_value texts axis.names ≡ nameless (axis_labels texts axis)
  names_seen = grind (arith, missing_names, length-map)

  series_seen : (axis : AxisValue) (name : Option Label) (column : CellColumn) → IsUnnamed axis → series_table (heading_value texts name) (axis_labels texts axis) (column_seen texts column) ≡ table_value texts (made_series axis name column)
  series_seen = search names_seen

abbrev series_named : Option LabelValue → ColumnOf CellValue → Rows → Table
series_named name c labels = series_table name labels c

-- the column is cast from the one that is listed
module _ (old : List Text) (values : List Item) (index : Option (Bor (List Item))) (name : Option Label) (kind : Option Kind) (listed : ColumnOf CellValue) (column : CellColumn) (rows : ℕ)
    (first : list_column (scalars old values) ≡ Ok listed) (settled : IsSettled index_given old index) where
  pub series_is : (new : List Text) → IsLonger old new → cast_to kind listed ≡ Ok (column_seen new column) → rows ≡ length column.cells
      → series_with (scalars old values) (index_given old index) (heading_value old name) kind ≡ labels_then (series_named (heading_value old name) (column_seen new column)) (meant.index_labels rows 1 (index_given new index))
  series_is new longer cast count = grind (arith, length-map, indexed_within, seen_later index_given old new index longer settled)

  module _ (axis : AxisValue) (made : NumberedTable) (labelled : record { names : IsUnnamed axis; labels : (texts : List Text) → meant.index_labels rows 1 (index_given texts index) ≡ Ok (axis_labels texts axis) })
      (named : IsSettled heading_value old name) (is : made ≡ made_series axis name column) where
    series_answer : (new : List Text) → IsLonger old new → cast_to kind listed ≡ Ok (column_seen new column) → rows ≡ length column.cells → series_with (scalars old values) (index_given old index) (heading_value old name) kind ≡ Ok (table (table_value new made))
    series_answer new longer cast count = cc (series_is new longer cast count, labelled.labels new, seen_later heading_value old new name longer named, series_seen new axis name column labelled.names)

    pub series_made : (new : List Text) → record { longer : IsLonger old new; given : AreGiven new column.cells; answer : cast_to kind listed ≡ Ok (column_seen new column) } → rows ≡ length column.cells → Makes new (Ok made) (series_with (scalars old values) (index_given old index) (heading_value old name) kind)
    series_made new cast count = (
      series_answer new cast.longer cast.answer count,
      λ more. cc (series_answer new cast.longer cast.answer count, series_answer (new ++ more) (longer_twice _ _ _ cast.longer (more, refl)) (cc (cast.answer, cells_settled new column.cells cast.given more)) count),
    )

-- The rows of columns.

-- the columns from a place on
module _ (texts : List Text) where
  columns_from : (blocks : List CellBlock) (place : ℕ) (b : CellBlock) → slice_get blocks place ≡ Some b → drop place (blocks_value texts blocks) ≡ block_value texts b ∷ drop (suc place) (blocks_value texts blocks)
  columns_from [] _ b is = cc
  columns_from (x ∷ xs) zero b is = search
  columns_from (x ∷ xs) (suc place) b is = columns_from xs _ b is

  module _ (blocks : List CellBlock) (place : ℕ) (b : CellBlock) where
    rows_at : All IsSingle blocks → slice_get blocks place ≡ Some b → b.rows ≡ length (block_value texts b).cells
    rows_at = grind (arith, slice_get_within, get_or_from_slice_get, length-map)

    module _ (rows got : ℕ) (whole : Result (Option ℕ) FaultValue) (all : All IsSingle blocks) (is : slice_get blocks place ≡ Some b) (count : got ≡ b.rows) (before : same_rows rows (drop place (blocks_value texts blocks)) ≡ whole) where
      -- the next one has as many
      pub rows_next : got ≡ rows → same_rows rows (drop (place + 1) (blocks_value texts blocks)) ≡ whole
      rows_next same = grind (arith, nat_tests, columns_from blocks place b is, rows_at all is, add-one)

      -- or not
      pub rows_differ : (got ≡ rows → ⊥) → whole ≡ Err (bad_value (length_of rows got))
      rows_differ other = grind (arith, nat_tests, columns_from blocks place b is, rows_at all is, add-one)

  -- columns with so many rows
  rows_kept : (rows : ℕ) (blocks : List CellBlock) (o : Option ℕ) → same_rows rows (blocks_value texts blocks) ≡ Ok o → (o ≡ Some rows) × HaveRows rows (columns_of blocks)
  rows_kept _ [] o is = (cc, All-nil _)
  rows_kept rows (b ∷ bs) o is = grind (arith, nat_tests, length-map, rows_kept rows bs o)

  -- the rows of the columns are those of the labels
  pub axis_rows : (blocks : List CellBlock) (index : Index) (rows : Option ℕ) (columns : ℕ) (r : Result AxisValue OpFault) → common_rows (blocks_value texts blocks) ≡ Ok rows → MakesBy axis_labels texts r (labels_for rows columns index)
      → IfOk r (λ axis. HaveRows (length axis.tuples) (columns_of blocks))
  axis_rows [] _ _ _ (Ok axis) _ _ = All-nil _
  axis_rows (b ∷ bs) index rows columns (Ok axis) is made = grind (arith, length-map, rows_kept _ bs rows is, axis_count)
  axis_rows _ _ _ _ (Err fault) _ _ = tt

-- Keys that are given once more.

abbrev pub Pairs : Type 0
Pairs = List (Label × Argument)

abbrev pub Places : Type 0
Places = List (Label × ℕ)

abbrev pub same_number : Label → Label → Bool
same_number a b = eq-value.it a b

-- a key that was given, and a place within the pairs
abbrev pub IsKey : List Text → ℕ → Label × ℕ → Type 0
IsKey texts count e = (e.1 < count) × IsSettled label_datum texts e.0

pub keys_inserted : (texts : List Text) (count : ℕ) (es : Places) (k : Label) (i : ℕ) → All (IsKey texts count) es → i < count → IsSettled label_datum texts k → All (IsKey texts count) (insert_entry same_number es k i)
keys_inserted _ _ [] k i all lt given = grind arith
keys_inserted texts count (e ∷ es) k i all lt given =
    let rest = All-tail (IsKey texts count) e es all in
    grind (arith, keys_inserted texts count es k i rest lt given, all 0 e, All-cons (IsKey texts count), rest)

inserted_seen : (live : Tables) (texts : List Text) (pairs : Pairs) (count : ℕ) (es : Places) (k : Label) (i : ℕ) (v : Given) → AreDistinct texts → All (IsKey texts count) es → IsSettled label_datum texts k
    → value_in live texts (slice_get pairs i) ≡ v → entries_seen live texts pairs (insert_entry same_number es k i) ≡ with_pair (entries_seen live texts pairs es) (label_datum texts k) v
inserted_seen _ _ _ _ [] k i v distinct all given is = cc
inserted_seen live texts pairs count (e ∷ es) k i v distinct all given is =
    grind (arith, inserted_seen live texts pairs count es k i v distinct (All-tail (IsKey texts count) e es all) given is, same_by_number texts k e.0 (same_number k e.0) distinct given (all 0 e (omega arith)).1 (label_decides k e.0))

-- one pair more
module _ (texts : List Text) where
  module _ (pairs : Pairs) (es es' : Places) (i : ℕ) (d : Label × Argument) (all : All (IsKey texts (length pairs)) es) (lt : i < length pairs) (given : AreSettledKeys texts pairs) (is : es' ≡ insert_entry same_number es (get_or pairs i d).0 i) where
    pub pair_step : AreDistinct texts → (live : Tables) (whole : List (LabelValue × Given)) → pairs_onto (entries_seen live texts pairs es) (entries_of live texts (drop i pairs)) ≡ whole → pairs_onto (entries_seen live texts pairs es') (entries_of live texts (drop (i + 1) pairs)) ≡ whole
    pair_step distinct live _ before =
        let next : i + 1 ≡ suc i = omega arith in
        cc (inserted_seen live texts pairs _ es _ i _ distinct all (given i d lt) (ap (value_in live texts) (slice_get-get_or _ i d lt)), drop-cons pairs i d lt)

    pub keys_step : All (IsKey texts (length pairs)) es'
    keys_step = rw is (search keys_inserted)

  module _ (count : ℕ) (es : Places) where
    pub places_inside : All (IsKey texts count) es → AreBelow count (values_of es)
    places_inside all = All-map (λ place. place < count) (λ e. e.1) es (λ k d lt. (all k d lt).0)

    pub keys_settled : All (IsKey texts count) es → AreSettledLabels texts (keys_of es)
    keys_settled all = All-map (λ key. IsSettled label_datum texts key) (λ e. e.0) es (λ k d lt. (all k d lt).1)

-- Columns that are made one after the other.

-- the columns so far, before those of other lists
abbrev pub columns_with : List Text → Pairs → List CellBlock → List ℕ → Result (List (ColumnOf CellValue)) FaultValue
columns_with texts pairs made places = then_value (try_all listed_column (lists_seen texts pairs places)) (λ rest. Ok (blocks_value texts made ++ rest))

-- one list more
pub column_more : (texts : List Text) (pairs : Pairs) (place : ℕ) (rest : List ℕ) (p : Label × Argument) (made made' : List CellBlock) (column : CellColumn) (whole : Result (List (ColumnOf CellValue)) FaultValue)
    → slice_get pairs place ≡ Some p → listed_column (list_seen texts p.1) ≡ Ok (column_seen texts column) → made' ≡ made ++ single_block (table_column column) ∷ []
    → columns_with texts pairs made (place ∷ rest) ≡ whole → columns_with texts pairs made' rest ≡ whole
column_more = grind (arith, map-append, append_assoc)

pub columns_single : (made made' : List CellBlock) (column : CellColumn) → All IsSingle made → made' ≡ made ++ single_block (table_column column) ∷ [] → All IsSingle made'
columns_single made _ column all pushed = rw pushed (All-push IsSingle made (single_block (table_column column)) all refl)

-- the first of the places, and the others
module _ (count : ℕ) (places : List ℕ) (place : ℕ) (rest : List ℕ) where
  pub place_below : places ≡ place ∷ rest → All (λ (place : ℕ). place < count) places → place < count
  place_below = grind arith

  pub rest_below : places ≡ place ∷ rest → All (λ (place : ℕ). place < count) places → All (λ (place : ℕ). place < count) rest
  rest_below = All-rest (λ place. place < count) place rest places

-- The labels of an index, row by row.

pub tuple_labels : (g : Given) (parts : GivenList) → Some parts ≡ tuple_in g → row_labels g ≡ labels_of parts
tuple_labels = grind (arith, some_same)

-- where a call is done, what follows from what it says
pub on_ok : {T E : Type 0} (P Q : Type 0) (r : Result T E) → (P → Q) → OnOk r P → OnOk r Q
on_ok P Q = grind arith

-- the parts of a row are the same among any objects
module _ (live : Tables) (texts : List Text) where
  row_cells : (n : Count) (r : Row_of-Item n) → cells_of (items_row live texts r) ≡ cells_of (items_row (λ id. None) texts r)
  row_cells _ end_of-Item = refl
  row_cells _ (more_of-Item {n} (OneItem (Scalar c)) rest) = cc (row_cells n rest)
  row_cells _ (more_of-Item {n} (OneItem (Object id)) rest) = row_cells n rest
  row_cells _ (more_of-Item {n} (RowItem' shape parts) rest) = row_cells n rest

  row_same : (item : Item) → row_labels (item_of live texts item) ≡ row_labels (item_of (λ id. None) texts item)
  row_same (RowItem' shape parts) = grind (arith, row_cells)
  row_same (OneItem (Scalar c)) = refl
  row_same (OneItem (Object id)) = refl

  pub rows_are : (items : List Item) → index_labels (items_of live texts items) ≡ rows_labels texts items
  rows_are [] = refl
  rows_are (item ∷ rest) = search (row_same, rows_are rest)

abbrev Has : ℕ → List LabelValue → Type 0
Has n labels = length labels ≡ n

-- and as many among any texts
module _ (texts : List Text) where
  cells_count : (n : Count) (r : Row_of-Item n) → length (cells_of (items_row (λ id. None) texts r)) ≡ length (cells_of (items_row (λ id. None) [] r))
  cells_count _ end_of-Item = refl
  cells_count _ (more_of-Item {n} (OneItem (Scalar c)) rest) = ap suc (cells_count n rest)
  cells_count _ (more_of-Item {n} (OneItem (Object id)) rest) = cells_count n rest
  cells_count _ (more_of-Item {n} (RowItem' shape parts) rest) = cells_count n rest

  row_count : (item : Item) → length (row_labels (item_of (λ id. None) texts item)) ≡ length (row_labels (item_of (λ id. None) [] item))
  row_count (RowItem' shape parts) = grind (arith, length-map, cells_count)
  row_count (OneItem (Scalar c)) = refl
  row_count (OneItem (Object id)) = refl

  all_have : (n : ℕ) (items : List Item) → All (Has n) (rows_labels texts items) → All (Has n) (rows_labels [] items)
  all_have n [] h = h
  all_have n (item ∷ rest) h =
      All-cons (Has n) (row_labels (item_of (λ id. None) [] item)) _ (sym (row_count item) ∙ h 0 [] (omega arith)) (all_have n rest (All-tail (Has n) (row_labels (item_of (λ id. None) texts item)) _ h))

-- labels are alike whatever the objects and the texts are
pub alike_seen : (live : Tables) (texts : List Text) (items : List Item) → AreAlike (index_labels (items_of live texts items)) → AreAlike (rows_labels [] items)
alike_seen live texts [] h = h
alike_seen live texts (item ∷ rest) h =
    let seen : AreAlike (rows_labels texts (item ∷ rest)) = rw (rows_are live texts (item ∷ rest)) at h in
    let same = row_count texts item in
    record { some = rw same at seen.some; each = all_have texts _ (item ∷ rest) (rw same at seen.each) }

pub rows_count : (texts : List Text) (items : List Item) → length (rows_labels texts items) ≡ length items
rows_count _ [] = refl
rows_count _ (item ∷ rest) = ap suc (rows_count _ rest)

-- one row more
row_at : (n : ℕ) (items : List Item) (k : ℕ) (item d : Item) → All (Has n) (rows_labels [] items) → k < length items → item ≡ get_or items k d → length (row_labels (item_of (λ id. None) [] item)) ≡ n
row_at n [] k _ d h lt is = search
row_at n (x ∷ xs) zero _ d h lt is = cc (All-head (Has n) (row_labels (item_of (λ id. None) [] x)) _ h)
row_at n (x ∷ xs) (suc k) _ d h lt is = row_at n xs k _ d (All-tail (Has n) (row_labels (item_of (λ id. None) [] x)) _ h) (omega (arith, lt)) is

pub row_fits : (n : ℕ) (items : List Item) (k : ℕ) (item d : Item) (labels : List Label) → All (Has n) (rows_labels [] items) → k < length items → item ≡ get_or items k d
    → tuple_value [] labels ≡ row_labels (item_of (λ id. None) [] item) → length labels ≡ n
row_fits n _ k _ d labels h lt is seen = cc (length-map labels (label_datum []), row_at n _ k _ d h lt is)

-- Axes of the labels of an index.

-- one level of 0, 1 and so on
single_level : (labels : List Label) → level_count (single_tuples labels) ≡ 1
single_level [] = refl
single_level (l ∷ ls) = refl

pub range_named : (rows : ℕ) (axis : AxisValue) → axis ≡ range_axis rows → axis.names ≡ nameless axis.tuples
range_named = grind (arith, single_level)

-- the levels of the tuples that are made
pub levels_made : (items : List Item) (tuples : List (List Label)) (levels : ℕ) → levels ≡ level_count (rows_labels [] items) → labels_value [] tuples ≡ rows_labels [] items → levels ≡ level_count tuples
levels_made = grind (arith, length-map)

-- refusals and the answer, in their order
module _ (texts : List Text) (items : List Item) where
  module _ (rows columns : ℕ) where
    pub count_refused : (length items ≡ rows → ⊥) → listed_labels rows columns (rows_labels texts items) ≡ Err (bad_value (length_of rows (length items)))
    count_refused = grind (arith, nat_tests, rows_count)

    module _ (same : length items ≡ rows) where
      counted : listed_labels rows columns (rows_labels texts items) ≡ few_levels (rows_labels texts items) (labels_within rows columns (rows_labels texts items))
      counted = grind (arith, nat_tests, rows_count)

      pub levels_refused : (levels : ℕ) → levels ≡ level_count (rows_labels texts items) → 4 < levels → listed_labels rows columns (rows_labels texts items) ≡ Err limit
      levels_refused = grind (arith, nat_tests, counted)

      pub cells_refused : within_limits rows columns ≡ false → listed_labels rows columns (rows_labels texts items) ≡ Err limit
      cells_refused = grind (arith, counted)

      pub listed_made : (levels : ℕ) (tuples : List (List Label)) (axis : AxisValue) → levels ≡ level_count (rows_labels texts items) → levels ≤ 4 → within_limits rows columns ≡ true → labels_value texts tuples ≡ rows_labels texts items → axis ≡ nameless_axis tuples levels
          → listed_labels rows columns (rows_labels texts items) ≡ Ok (axis_labels texts axis)
      listed_made = grind (arith, nat_tests, counted)

  -- as many labels as there are
  pub free_same : listed_labels (length items) 0 (rows_labels texts items) ≡ free_labels (Some (rows_labels texts items))
  free_same = grind (arith, counted, rows_count)

-- Frames of a dict's pairs.

abbrev Columns : Type 0
Columns = List (ColumnOf CellValue)

-- a value that isn't a list of scalars has the same fault as mixed kinds, so both can be tested value by value
abbrev column_of : LabelValue × Given → Result (ColumnOf CellValue) FaultValue
column_of p = list_column (cells_given p.1)

abbrev lists_of : List (LabelValue × Given) → List (Option (List CellValue))
lists_of pairs = map (λ p. scalars_in p.1) pairs

lists_made : (pairs : List (LabelValue × Given)) → (if list_all is_scalar_list pairs then try_all column_of pairs else Err wrong_kind) ≡ try_all listed_column (lists_of pairs)
lists_made ((l, many parts) ∷ rest) = grind (arith, lists_made rest)
lists_made _ = refl

-- the number of rows, and then the labels
rows_labels_then : (rows count : ℕ) (cs : Columns) (index : Index) (go : Rows → Table) (last : Result Entry FaultValue) → last ≡ labels_then go (meant.index_labels rows count index)
    → all_of_length rows cs last ≡ labels_then go (then_value (same_rows rows cs) (λ r. labels_for r count index))
rows_labels_then _ _ [] _ _ _ is = is
rows_labels_then rows count (c ∷ cs) index go last is = grind (arith, rows_labels_then rows count cs index go last is)

frame_columns : (headings : List LabelValue) (columns : Columns) (index : Option GivenList)
    → make.frame_with headings columns index ≡ labels_then (λ labels. frame_table labels headings columns) (frame_labels columns (option_map index_labels index))
frame_columns _ [] _ = grind (arith, limited_labels)
frame_columns headings (c ∷ cs) index =
    rows_labels_then _ _ cs _ (λ labels. frame_table labels headings (c ∷ cs)) _
    (grind (arith, indexed_within))

pub frame_same : (pairs : List (LabelValue × Given)) (index : Option GivenList) → frame_of pairs index ≡ frame_from pairs (option_map index_labels index)
frame_same pairs index = grind (arith, lists_made pairs, frame_columns)

-- a value is the same list of scalars among any objects
module _ (live : Tables) (texts : List Text) where
  each_same : (items : List Item) → each is_scalar (items_of live texts items) ≡ each is_scalar (items_of (λ id. None) texts items)
  each_same (OneItem (Scalar c) ∷ rest) = each_same rest
  each_same _ = refl

  pub list_same : (a : Argument) → scalars_in (argument_of live texts a) ≡ list_seen texts a
  list_same (Many l) = cc (each_same l.items.items, scalars_are live texts l.items.items)
  list_same _ = refl

  lists_same : (pairs : Pairs) (es : Places) → lists_of (entries_seen live texts pairs es) ≡ lists_seen texts pairs (values_of es)
  lists_same _ [] = refl
  lists_same pairs (e ∷ es) = grind (arith, list_same, lists_same pairs es)

abbrev labels_seen : List Text → List Label → List LabelValue
labels_seen texts labels = map (label_datum texts) labels

keys_same : (live : Tables) (texts : List Text) (pairs : Pairs) (es : Places) → map (λ p. p.0) (entries_seen live texts pairs es) ≡ labels_seen texts (keys_of es)
keys_same _ _ _ [] = refl
keys_same live texts pairs (e ∷ es) = cc (keys_same live texts pairs es)

module _ (texts : List Text) where
  headings_seen : (ks : List Label) → map (λ l. Some l) (labels_seen texts ks) ≡ headings_value texts (key_headings ks).labels
  headings_seen [] = refl
  headings_seen (k ∷ ks) = cc (headings_seen ks)

  -- what was given
  labels_settled : (ks : List Label) → AreSettledLabels texts ks → IsSettled labels_seen texts ks
  labels_settled [] _ = λ more. refl
  labels_settled (k ∷ ks) all = λ more. cc (labels_settled ks (λ i d lt. all (suc i) d (omega arith)) more, all 0 k (omega arith) more)

  lists_settled : (more : List Text) (pairs : Pairs) (places : List ℕ) → AreSettledLists texts pairs → lists_seen (texts ++ more) pairs places ≡ lists_seen texts pairs places
  lists_settled _ _ [] _ = refl
  lists_settled more pairs (place ∷ places) all = grind (arith, lists_settled more pairs places all, slice_get_cases pairs place, all place)

-- labels of columns
keys_fit : (ks : List Label) → AreHeadings Frame (key_headings ks).columns_name (key_headings ks).labels
keys_fit ks = record {
  single = λ e. cc;
  nameless = λ e. cc;
  labelled = λ e. search All-map;
}

-- the columns are those of the keys
made_count : {A B : Type 0} (f : A → Result B FaultValue) (xs : List A) (ys : List B) → try_all f xs ≡ Ok ys → length xs ≡ length ys
made_count f [] _ is = cc
made_count f (x ∷ xs) _ is = grind (arith, made_count f xs)

-- the pairs by where the keys' last values stand
module _ (texts : List Text) (pairs : Pairs) (es : Places) (index : Option (Bor (List Item)))
    (placed : record { inside : AreBelow (length pairs) (values_of es); settled : AreSettledLabels texts (keys_of es); pairs : (live : Tables) → entries_seen live texts pairs es ≡ pairs_in (entries_of live texts pairs) }) where
  frame_seen : (live : Tables) → frame_from (pairs_in (entries_of live texts pairs)) (index_given texts index) ≡ frame_with (labels_seen texts (keys_of es)) (lists_seen texts pairs (values_of es)) (index_given texts index)
  frame_seen live = grind (arith, keys_same, lists_same, placed.pairs live)

  pub columns_refused : (fault : OpFault) → MakesBy blocks_value texts (Err fault) (try_all listed_column (lists_seen texts pairs (values_of es))) → (live : Tables) → Makes texts (Err fault) (frame_from (pairs_in (entries_of live texts pairs)) (index_given texts index))
  columns_refused _ refused live = rw (frame_seen live) (grind (arith, refused_on))

  module _ (blocks : List CellBlock) (columns : (texts : List Text) → try_all listed_column (lists_seen texts pairs (values_of es)) ≡ Ok (blocks_value texts blocks)) where
    pub rows_refused : (fault : OpFault) → MakesBy axis_labels texts (Err fault) (frame_labels (blocks_value texts blocks) (index_given texts index)) → (live : Tables) → Makes texts (Err fault) (frame_from (pairs_in (entries_of live texts pairs)) (index_given texts index))
    rows_refused _ refused live = rw (frame_seen live, columns texts) (grind (arith, refused_on))

    module _ (axis : AxisValue) (labelled : record { names : IsUnnamed axis; rows : HaveRows (length axis.tuples) (columns_of blocks); labels : (texts : List Text) → frame_labels (blocks_value texts blocks) (index_given texts index) ≡ Ok (axis_labels texts axis) })
        (headings : HeadingList) (headed : headings ≡ key_headings (keys_of es)) where
      pub frame_whole : IsWhole (table_of Frame axis headings blocks)
      frame_whole = grind (arith, length-map, made_count, columns [], keys_fit)

      frame_at : (texts : List Text) → frame_with (labels_seen texts (keys_of es)) (lists_seen texts pairs (values_of es)) (index_given texts index) ≡ Ok (table (table_value texts (table_of Frame axis headings blocks)))
      frame_at texts = rw headed (cc (columns texts, labelled.labels texts, names_seen texts axis labelled.names, headings_seen texts (keys_of es)))

      pub frame_made : (made : NumberedTable) → made ≡ table_of Frame axis headings blocks → AreSettledLists texts pairs → IsSettled index_given texts index → (live : Tables) → Makes texts (Ok made) (frame_from (pairs_in (entries_of live texts pairs)) (index_given texts index))
      frame_made _ is lists given live = rw is (
        frame_seen live ∙ frame_at texts,
        λ more. cc (frame_at texts, frame_at (texts ++ more), labels_settled texts (keys_of es) placed.settled more, lists_settled texts more pairs (values_of es) lists, given more),
      )

-- Constructors on bound arguments.

pub indexes_are : (live : Tables) (texts : List Text) (index : Option (Bor (List Item))) → option_map index_labels (option_map (λ l. items_of live texts l.now) index) ≡ index_given texts index
indexes_are = grind (arith, rows_are)

-- the pairs of a dict that was given
module _ (live : Tables) (texts : List Text) where
  keys_given : (pairs : Pairs) → IsSettled (entries_of live) texts pairs → AreSettledKeys texts pairs
  keys_given [] _ = All-nil _
  keys_given (p ∷ ps) settled = All-cons (λ (p : Label × Argument). IsSettled label_datum texts p.0) p ps (λ more. cc (settled more)) (keys_given ps (λ more. cc (settled more)))

  lists_given : (pairs : Pairs) → IsSettled (entries_of live) texts pairs → AreSettledLists texts pairs
  lists_given [] _ = All-nil _
  lists_given (p ∷ ps) settled =
      All-cons (λ (p : Label × Argument). IsSettled list_seen texts p.1) p ps (λ more. cc (settled more, list_same live texts p.1, list_same live (texts ++ more) p.1)) (lists_given ps (λ more. cc (settled more)))

-- the arguments are bound, and an index stands at the second place, if one does
module _ (w : World) (b : Bound) (ps : List Parameter) (args : List Named) (bound : IsBound w ps args (Ok b)) (rows : Option (Bor (List Item)))
    (indexed : Tells b 1 list_in (λ live texts. option_map (λ (l : Bor (List Item)). items_of live texts l.now) rows)) where
  pub arguments_given : AreKnownArguments w args → IsSettled (arguments_of w.tables) w.texts b.args.now
  arguments_given known = rw bound.2 known.given

  pub index_settled : AreKnownArguments w args → IsSettled index_given w.texts rows
  index_settled known more = cc (indexes_are w.tables w.texts rows, indexes_are w.tables (w.texts ++ more) rows, told_settled b 1 list_in _ w.tables w.texts indexed (arguments_given known) more)

  -- its labels are alike, where the parameter takes labels of rows
  levels_of : (o : Option (Bor (List Item))) → GivesAlike (option_map (λ l. items_of w.tables w.texts l.now) o) → GivesLevels o
  levels_of None _ = tt
  levels_of (Some l) alike = alike_seen _ _ _ alike

  pub index_levels : (p : Parameter) → slice_get ps 1 ≡ Some p → p.accepted ≡ accepted.RowLabels → GivesLevels rows
  index_levels p there accepted = levels_of rows (grind (arith, index_taken ps (arguments_in w args) 1 p _ bound.0 there accepted, indexed w.tables w.texts))

  module _ (of : ps ≡ function_parameters function.Series) (values : List Item) (listed : Tells b 0 list_in (λ live texts. Some (items_of live texts values))) (cell : Option Cell) (name : Option Label) (scalar : Tells b 2 scalar_in (λ _ texts. option_map (datum texts) cell))
      (named : (texts : List Text) → heading_value texts name ≡ option_map cell_label (option_map (datum texts) cell)) where
    pub series_needs : AreKnownArguments w args → record { values : IsSettled scalars w.texts values; index : IsSettled index_given w.texts rows; levels : GivesLevels rows; name : IsSettled heading_value w.texts name }
    series_needs known =
        record {
          values = items_settled b 0 _ _ _ listed (arguments_given known);
          index = index_settled known;
          levels = index_levels _ (ap (λ ps. slice_get ps 1) of) refl;
          name = name_given b 2 _ _ _ _ scalar named (arguments_given known);
        }

    pub series_given : (kind : Option Kind) → kind ≡ kind_given (scalar_in (stands_at w.tables w.texts b 3)) → series_with (scalars w.texts values) (index_given w.texts rows) (heading_value w.texts name) kind ≡ series_call (arguments_in w args)
    series_given _ is = grind (arith, scalars_are w.tables w.texts values, indexes_are w.tables w.texts rows, listed w.tables w.texts, indexed w.tables w.texts, scalar w.tables w.texts, named w.texts)

  module _ (of : ps ≡ function_parameters function.DataFrame) (pairs : Pairs) (listed : Tells b 0 dict_in (λ live texts. Some (entries_of live texts pairs))) where
    pub frame_needs : AreKnownArguments w args → record { keys : AreSettledKeys w.texts pairs; values : AreSettledLists w.texts pairs; index : IsSettled index_given w.texts rows; levels : GivesLevels rows }
    frame_needs known =
        let settled : IsSettled (entries_of w.tables) w.texts pairs = λ more. cc (told_settled b 0 dict_in _ w.tables w.texts listed (arguments_given known) more) in
        record {
          keys = keys_given _ _ _ settled;
          values = lists_given _ _ _ settled;
          index = index_settled known;
          levels = index_levels _ (ap (λ ps. slice_get ps 1) of) refl;
        }

    pub frame_given : frame_from (pairs_in (entries_of w.tables w.texts pairs)) (index_given w.texts rows) ≡ frame_call (arguments_in w args)
    frame_given = grind (arith, frame_same, indexes_are w.tables w.texts rows, listed w.tables w.texts, indexed w.tables w.texts)
