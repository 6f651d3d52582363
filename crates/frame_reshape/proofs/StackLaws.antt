-- The columns of a frame as a level of the labels of its rows.
use Rattle.{frame_parts.proofs.Common.{arith, ◌≡◌, ◌∙◌, refl, ap, sym, subst, ℕ, ◌+◌, ◌<◌, ◌≤◌, ◌^◌, Bool, true, false, List, [], ◌∷◌, ◌++◌, map, take, set, length, slice_get, slice_index_or, unwrap_or, nat_lt, Option, Some, None, Result, Ok, Err, if◌then◌else◌, append_assoc, append-nil, get_or-map, map-map, map-append, length-map, length-set, length-replicate, nat_tests, take_all, take_more, All, All-nil, All-map, All-head, All-tail, get_or_from_slice_get, range_with_len, length-range_with_len, flat_map, list_all, Label, Kind, Int64, Series, Text, LabelValue, int, pos, label_datum, CellValue, datum, Cell, FaultValue, wrong_kind, limit, CellColumn, AxisValue, HaveLevels, IsSettled, ColumnOf, NumberedTable, Table, table, column_at, no_column, table_value, heading_value, tuple_value, column_value, IsWhole, IsKnownTable, Entry, OpFault, Refused, axis_of, label_there, table_column, table_with, headings_value, labels_value, columns_value, Makes, settled_by, all_flat, within_limits, limited, column_labels, value_of_column, column_of_value, same_kind, on, ColumnValue}, column_core.proofs.cells.Common.{◌*◌, take_more_set, flat_map-append, length-append}, multi_index.specs.Axes.{label_at, with_name}, frame_select.proofs.PickedLaws.{list_is}, frame_labels.{specs.{Labels.{column_tuple}, method.{Levels.{on_levels}, Reshape.{stacked, stacked_labels, stack_result}}}, proofs.{ColumnLabelLaws.{label_tuple}, TableLaws.{limited_within}}}, reshape.{specs.{Answers.{ReshapesBy}, Blocks.{height_of, AreByRow, HaveOneHeight}, declared.fault.ReshapeFault.{ReshapeFault, TheVariants.{Duplicates, MixedKinds, TooLarge}}, shapes.{Reshape.{column_by_row, cells_by_row, count_of_rows, cells_of_row}, join.Concat.{column_within_limit, ConcatRefusal, mixed_kinds, too_large}}}, proofs.shapes.GridLaws.{length-even}}, frame_reshape.specs.{Stacks.{row_with_columns, stacked_tuples, stacked_axis}, Checks.{kinds_at, are_one, refusal}}}
use Rattle.cell_core.specs.declared.cell.Label.TheVariants as na_label
use Rattle.column_core.specs.Columns as kernel
use Rattle.reshape.specs.shapes.Reshape as kernel_meant
use Rattle.reshape.specs.shapes.join.align.Joins.{most_rows}
use Rattle.reshape.specs.declared.fault.ReshapeFault.TheVariants as fault

-- one label more of a row
pub one_more_label : (labels tuple : List Label) (level : ℕ) (label d : Label) → level < length labels → level < length tuple → slice_index_or tuple level d ≡ label → take level labels ≡ take level tuple → take (level + 1) (set labels level label) ≡ take (level + 1) tuple
one_more_label labels tuple level label d room lt is before = grind (arith, take_more_set, take_more tuple level d lt)

-- the labels of a row, and then that of a column
pub last_label : (labels tuple : List Label) (levels : ℕ) (label : Label) → levels < length labels → length tuple ≡ levels → take levels labels ≡ take levels tuple → take (levels + 1) (set labels levels label) ≡ tuple ++ label ∷ []
last_label labels tuple levels label room long before = cc (take_more_set labels levels label room, take_all levels tuple (omega (arith, long)))

-- the same of an axis that is read
module _ (t : NumberedTable) (axis : AxisValue) (levels row : ℕ) (labels : List Label) (label : Label) (is : axis ≡ axis_of t) (alike : HaveLevels levels axis.tuples) (inside : row < length t.labels) (few : levels ≤ 3) (room : length labels ≡ 4) where
  long : length (slice_index_or t.labels row []) ≡ levels
  long = rw is at alike row [] inside

  pub label_written : (level : ℕ) → level < levels → label_at axis row level ≡ Some label → take level labels ≡ take level (slice_index_or t.labels row []) → take (level + 1) (set labels level label) ≡ take (level + 1) (slice_index_or t.labels row [])
  label_written level lt at before =
      one_more_label labels _ level label na_label.Na (omega (arith, room, lt, few)) (omega (arith, long, lt)) (rw is at (label_there axis row level label (rw is inside) at)) before

  pub tuple_made : (h : Option Label) → column_tuple h ≡ label ∷ [] → take levels labels ≡ take levels (slice_index_or t.labels row []) → take (levels + 1) (set labels levels label) ≡ slice_index_or t.labels row [] ++ column_tuple h
  tuple_made h last before = rw last (last_label labels _ levels label (omega (arith, room, few)) long before)

-- one column more, and one row more
pub one_more_heading : (labels : List Label) (headings : List (Option Label)) (column : ℕ) (tuple : List Label) (start made made' : List (List Label)) → column < length headings → tuple ≡ labels ++ column_tuple (slice_index_or headings column None) → made' ≡ made ++ tuple ∷ []
    → made ≡ start ++ map (λ h. labels ++ column_tuple h) (take column headings) → made' ≡ start ++ map (λ h. labels ++ column_tuple h) (take (column + 1) headings)
one_more_heading labels headings column _ start _ _ lt is pushed before = cc (pushed, is, before, take_more headings column None lt, map-append (λ h. labels ++ column_tuple h) (take column headings) (slice_index_or headings column None ∷ []), append_assoc start (map (λ h. labels ++ column_tuple h) (take column headings)) ((labels ++ column_tuple (slice_index_or headings column None)) ∷ []))

pub one_more_row : (t : NumberedTable) (row : ℕ) (made made' : List (List Label)) → row < length t.labels → made' ≡ made ++ row_with_columns t (slice_index_or t.labels row []) → made ≡ flat_map (row_with_columns t) (take row t.labels)
    → made' ≡ flat_map (row_with_columns t) (take (row + 1) t.labels)
one_more_row t row _ _ lt pushed before = cc (pushed, before, take_more t.labels row [] lt, flat_map-append (row_with_columns t) (take row t.labels) (slice_index_or t.labels row [] ∷ []), append-nil (row_with_columns t (slice_index_or t.labels row [])))

-- each has a label more than before
one_of_column : (h : Option Label) → length (column_tuple h) ≡ 1
one_of_column None = refl
one_of_column (Some l) = refl

pub stacked_levels : (t : NumberedTable) (levels : ℕ) → HaveLevels levels t.labels → HaveLevels (levels + 1) (stacked_tuples t)
stacked_levels t levels alike =
    all_flat (λ tuple. length tuple ≡ levels + 1) (λ labels. length labels ≡ levels) (row_with_columns t)
    (λ labels long. All-map (λ tuple. length tuple ≡ levels + 1) (λ h. labels ++ column_tuple h) t.headings (λ k d lt. grind (arith, length-append, one_of_column)))
    t.labels alike

-- the names of the levels, and then that of the columns
pub one_more_name : (names all : List (Option Label)) (level : ℕ) (name : Option Label) → level < length names → level < length all → name ≡ slice_index_or all level None → take level names ≡ take level all → take (level + 1) (set names level name) ≡ take (level + 1) all
one_more_name names all level name room lt is before = grind (arith, take_more_set, take_more all level None lt)

pub last_name : (names all : List (Option Label)) (levels : ℕ) (name : Option Label) → length names ≡ levels + 1 → length all ≡ levels → take levels names ≡ take levels all → set names levels name ≡ all ++ name ∷ []
last_name names all levels name size long before =
    sym (take_all (levels + 1) (set names levels name) (omega (arith, size, length-set names levels name)))
    ∙ take_more_set names levels name (omega (arith, size))
    ∙ cc (take_all levels all (omega (arith, long)))

-- the same of an axis that is named
module _ (axis axis' : AxisValue) (t : NumberedTable) (size : length axis.names ≡ length t.level_names + 1) where
  pub size_kept : (level : ℕ) (name : Option Label) → axis' ≡ with_name axis level name → length axis'.names ≡ length t.level_names + 1
  size_kept level name is = ap (λ a. length a.names) is ∙ length-set axis.names level name ∙ size

  pub name_written : (level : ℕ) (name : Option Label) → level < length t.level_names → axis' ≡ with_name axis level name → name ≡ slice_index_or t.level_names level None → take level axis.names ≡ take level t.level_names
      → take (level + 1) axis'.names ≡ take (level + 1) t.level_names
  name_written level name lt is named before = ap (λ a. take (level + 1) a.names) is ∙ one_more_name axis.names t.level_names level name (omega (arith, size, lt)) lt named before

  pub axis_made : (levels : ℕ) → levels ≡ length t.level_names → axis' ≡ with_name axis levels t.columns_name → axis.tuples ≡ stacked_tuples t → take levels axis.names ≡ take levels t.level_names → axis' ≡ stacked_axis t
  axis_made levels counted is tuples before =
      let named = last_name axis.names t.level_names levels t.columns_name (omega (arith, size, counted)) (sym counted) before in
      cc

-- how many rows there are
pub stacked_counted : (t : NumberedTable) → length t.headings ≡ length t.columns → length (stacked_tuples t) ≡ length t.labels * length t.columns
stacked_counted t headed = length-even (row_with_columns t) (length t.columns) (λ labels. length-map t.headings _ ∙ headed) t.labels

-- all columns
all_columns : (t : NumberedTable) (places : List ℕ) (count : ℕ) → places ≡ range_with_len 0 count → count ≡ length t.columns → map (column_at t.columns) places ≡ t.columns
all_columns t _ _ are is = ap (λ ps. map (column_at t.columns) ps) (are ∙ ap (range_with_len 0) is) ∙ list_is (column_at t.columns) t.columns 0 no_column (λ k lt. grind arith)

pub parts_are : (t : NumberedTable) (places : List ℕ) (count : ℕ) (parts : List CellColumn) → places ≡ range_with_len 0 count → count ≡ length t.columns → map table_column parts ≡ map (column_at t.columns) places → map table_column parts ≡ t.columns
parts_are t places count parts are is made = made ∙ all_columns t places count are is

kinds_here : (t : NumberedTable) (places : List ℕ) (count : ℕ) → places ≡ range_with_len 0 count → count ≡ length t.columns → kinds_at t places ≡ map (λ c. c.kind) t.columns
kinds_here t places count are is = sym (map-map (λ c. c.kind) (column_at t.columns) places) ∙ ap (map (λ c. c.kind)) (all_columns t places count are is)

-- how many cells stand row after row
cells_counted : (vs : List ColumnValue) → length (cells_by_row vs) ≡ count_of_rows vs * length vs
cells_counted vs = length-even (cells_of_row vs) (length vs) (λ row. length-map vs _) (range_with_len 0 (count_of_rows vs)) ∙ ap (λ n. n * length vs) (length-range_with_len 0 (count_of_rows vs))

-- what a kernel answers, by the column that is meant
within_ok : {K : Type 0} (o : Option ColumnValue) (c : ColumnValue) → column_within_limit {K = K} o ≡ Ok c → o ≡ Some c
within_ok None c is = cc
within_ok {K} (Some d) c is = by (nat_lt most_rows (length d.cells)) is
  where
    by : (b : Bool) → ◌≡◌ {A = Result ColumnValue (ConcatRefusal K)} (if b then Err too_large else Ok d) (Ok c) → Some d ≡ Some c
    by true e = cc
    by false e = cc

never_mixed : {K : Type 0} (c : ColumnValue) → column_within_limit {K = K} (Some c) ≡ Err mixed_kinds → ⊥
never_mixed {K} c is = by (nat_lt most_rows (length c.cells)) is
  where
    by : (b : Bool) → ◌≡◌ {A = Result ColumnValue (ConcatRefusal K)} (if b then Err too_large else Ok c) (Err mixed_kinds) → ⊥
    by true e = cc
    by false e = cc

many_cells : {K : Type 0} (c : ColumnValue) → column_within_limit {K = K} (Some c) ≡ Err too_large → nat_lt most_rows (length c.cells) ≡ true
many_cells {K} c is = by (nat_lt most_rows (length c.cells)) is
  where
    by : (b : Bool) → ◌≡◌ {A = Result ColumnValue (ConcatRefusal K)} (if b then Err too_large else Ok c) (Err too_large) → b ≡ true
    by true e = refl
    by false e = cc

few_cells : (n m : ℕ) → n ≡ m → within_limits m 1 ≡ true → nat_lt most_rows n ≡ true → ⊥
few_cells n m same within many = grind (arith, nat_tests)

-- the columns as a kernel sees them
module _ (texts : List Text) where
  parts_seen : (parts : List CellColumn) → map value_of_column (columns_value texts (map table_column parts)) ≡ map (kernel.column_value texts) parts
  parts_seen [] = refl
  parts_seen (p ∷ ps) = cc (parts_seen ps)

  columns_there : (t : NumberedTable) (parts : List CellColumn) → map table_column parts ≡ t.columns → map value_of_column (columns_value texts t.columns) ≡ map (kernel.column_value texts) parts
  columns_there t parts is = ap (λ cs. map value_of_column (columns_value texts cs)) (sym is) ∙ parts_seen parts

  kinds_seen : (kind : Kind) (cs : List (ColumnOf Cell)) → list_all (λ other. same_kind kind other.kind) (map value_of_column (columns_value texts cs)) ≡ list_all (same_kind kind) (map (λ c. c.kind) cs)
  kinds_seen kind [] = refl
  kinds_seen kind (c ∷ cs) = cc (kinds_seen kind cs)

  abbrev column_if : Bool → Kind → List CellValue → Option ColumnValue
  column_if b kind cells = if b then Some record { kind = kind; cells = cells } else None

  abbrev seen_columns : List (ColumnOf Cell) → List ColumnValue
  seen_columns cs = map value_of_column (columns_value texts cs)

  by_row : (cs : List (ColumnOf Cell)) (b : Bool) → are_one (map (λ c. c.kind) cs) ≡ b → (kind : Kind) × (column_by_row (seen_columns cs) ≡ column_if b kind (cells_by_row (seen_columns cs)))
  by_row [] b is = (Int64, grind arith)
  by_row (c ∷ cs) b is = (c.kind, grind (arith, kinds_seen c.kind cs))

  -- the labels of the rows with those of the columns
  head_seen : (labels : List Label) (h : Option Label) → tuple_value texts (labels ++ column_tuple h) ≡ tuple_value texts labels ++ label_tuple (heading_value texts h)
  head_seen labels None = map-append (label_datum texts) labels _
  head_seen labels (Some l) = map-append (label_datum texts) labels _

  heads_seen : (labels : List Label) (hs : List (Option Label)) → labels_value texts (map (λ h. labels ++ column_tuple h) hs) ≡ map (λ column. tuple_value texts labels ++ column) (map label_tuple (headings_value texts hs))
  heads_seen labels [] = refl
  heads_seen labels (h ∷ hs) = λ i. head_seen labels h i ∷ heads_seen labels hs i

  rows_seen : (t : NumberedTable) (rows : List (List Label)) → labels_value texts (flat_map (row_with_columns t) rows) ≡ flat_map (λ labels. map (λ column. labels ++ column) (column_labels (table_value texts t))) (labels_value texts rows)
  rows_seen t [] = refl
  rows_seen t (r ∷ rs) = map-append (tuple_value texts) (row_with_columns t r) (flat_map (row_with_columns t) rs) ∙ (λ i. heads_seen r t.headings i ++ rows_seen t rs i)

  labels_seen : (t : NumberedTable) → labels_value texts (stacked_tuples t) ≡ stacked_labels (table_value texts t)
  labels_seen t = rows_seen t t.labels

  labels_counted : (t : NumberedTable) → IsWhole t → length (stacked_labels (table_value texts t)) ≡ length t.labels * length t.columns
  labels_counted t whole = ap length (sym (labels_seen t)) ∙ length-map (stacked_tuples t) _ ∙ stacked_counted t whole.headed

  -- what is meant, by the column
  stack_by : (t : NumberedTable) (o : Option ColumnValue) → column_by_row (seen_columns t.columns) ≡ o
      → stack_result (table_value texts t) ≡ on o (λ cells. on_levels (length (table_value texts t).level_names + 1) (limited (stacked (table_value texts t) cells)))
  stack_by t o is = ap (λ o. on o (λ cells. on_levels (length (table_value texts t).level_names + 1) (limited (stacked (table_value texts t) cells)))) is

  levels_beyond : (n m : ℕ) (rest : Result Entry FaultValue) → n ≡ m → 4 ≤ m → on_levels (n + 1) rest ≡ Err limit
  levels_beyond n m rest same many = grind (arith, nat_tests)

  levels_within : (n m : ℕ) (rest : Result Entry FaultValue) → n ≡ m → m ≤ 3 → on_levels (n + 1) rest ≡ rest
  levels_within n m rest same few = grind (arith, nat_tests)

  cells_beyond : (t : NumberedTable) (cells : ColumnValue) → IsWhole t → within_limits (length t.labels * length t.columns) 1 ≡ false → limited (stacked (table_value texts t) cells) ≡ Err limit
  cells_beyond t cells whole beyond = grind (arith, labels_counted t whole)

  -- columns of several kinds
  pub stack_mixed : (t : NumberedTable) (places : List ℕ) (count : ℕ) → places ≡ range_with_len 0 count → count ≡ length t.columns → are_one (kinds_at t places) ≡ false → stack_result (table_value texts t) ≡ Err wrong_kind
  stack_mixed t places count are is mixed = stack_by t None (by_row t.columns false (ap are_one (sym (kinds_here t places count are is)) ∙ mixed)).1

  module _ (t : NumberedTable) (places : List ℕ) (count : ℕ) (are : places ≡ range_with_len 0 count) (is : count ≡ length t.columns) (one : are_one (kinds_at t places) ≡ true) (known : IsKnownTable texts t) where
    abbrev found : (kind : Kind) × (column_by_row (seen_columns t.columns) ≡ Some record { kind = kind; cells = cells_by_row (seen_columns t.columns) })
    found = by_row t.columns true (ap are_one (sym (kinds_here t places count are is)) ∙ one)

    abbrev column : ColumnValue
    column = record { kind = found.0; cells = cells_by_row (seen_columns t.columns) }

    names_counted : length (table_value texts t).level_names ≡ length t.level_names
    names_counted = length-map t.level_names _

    -- too many levels, or too many rows
    pub stack_levels : 4 ≤ length t.level_names → stack_result (table_value texts t) ≡ Err limit
    stack_levels many = stack_by t _ found.1 ∙ levels_beyond _ _ _ names_counted many

    pub stack_beyond : within_limits (length t.labels * length t.columns) 1 ≡ false → stack_result (table_value texts t) ≡ Err limit
    stack_beyond beyond = stack_by t _ found.1 ∙ ap (on_levels (length (table_value texts t).level_names + 1)) (cells_beyond t column known.whole beyond) ∙ either
      where
        either : on_levels (length (table_value texts t).level_names + 1) (Err limit) ≡ Err limit
        either = grind arith

    module _ (parts : List CellColumn) (parts_is : map table_column parts ≡ t.columns) (few : length t.level_names ≤ 3) (within : within_limits (length t.labels * length t.columns) 1 ≡ true) where
      rows_there : count_of_rows (seen_columns t.columns) * length (seen_columns t.columns) ≡ length t.labels * length t.columns
      rows_there = counted t.columns known.whole.filled
        where
          counted : (cs : List (ColumnOf Cell)) → All (λ c. length c.cells ≡ length t.labels) cs → count_of_rows (seen_columns cs) * length (seen_columns cs) ≡ length t.labels * length cs
          counted [] filled = omega arith
          counted (c ∷ cs) filled = grind (arith, length-map, All-head (λ (c : ColumnOf Cell). length c.cells ≡ length t.labels) c cs filled)

      -- what a kernel refuses
      pub stack_refused : (why : ReshapeFault) → ReshapesBy (kernel.column_value texts) (Err why) (kernel_meant.stacked (map (kernel.column_value texts) parts)) → Makes texts (Err (refusal why)) (stack_result (table_value texts t))
      stack_refused (Duplicates key) refused = absurd refused
      stack_refused MixedKinds refused = absurd (never_mixed {K = List Label} column (cc (refused, columns_there t parts parts_is, found.1)))
      stack_refused TooLarge refused = absurd (few_cells _ _ (cells_counted (seen_columns t.columns) ∙ rows_there) within (many_cells {K = List Label} column (cc (refused, columns_there t parts parts_is, found.1))))
      stack_refused fault.NoMemory refused = tt

-- columns of one height
pub one_height : (parts : List CellColumn) (n : ℕ) → All (λ c. length c.cells ≡ n) parts → HaveOneHeight parts
one_height [] n all = All-nil (λ (c : CellColumn). length c.cells ≡ 0)
one_height (p ∷ ps) n all = λ k d lt. all k d lt ∙ sym (All-head (λ (c : CellColumn). length c.cells ≡ n) p ps all)

heights : (parts : List CellColumn) (n : ℕ) → All (λ c. length c.cells ≡ n) parts → height_of parts * length parts ≡ n * length parts
heights [] n all = omega arith
heights (p ∷ ps) n all = ap (λ m. m * length (p ∷ ps)) (All-head (λ (c : CellColumn). length c.cells ≡ n) p ps all)

pub rows_stacked : (t : NumberedTable) (parts : List CellColumn) (cells : CellColumn) → IsWhole t → map table_column parts ≡ t.columns → All (λ c. length c.cells ≡ length t.labels) parts → AreByRow parts cells.cells → length cells.cells ≡ length (stacked_tuples t)
rows_stacked t parts cells whole is long made =
    made.count
    ∙ heights parts (length t.labels) long
    ∙ ap (λ n. length t.labels * n) (sym (length-map parts table_column) ∙ ap length is)
    ∙ sym (stacked_counted t whole.headed)

-- the Series that is made
module _ (t : NumberedTable) (parts : List CellColumn) (cells : CellColumn) (parts_is : map table_column parts ≡ t.columns)
    (answered : (texts : List Text) → ReshapesBy (kernel.column_value texts) (Ok cells) (kernel_meant.stacked (map (kernel.column_value texts) parts))) where
  column_there : (texts : List Text) → column_by_row (seen_columns texts t.columns) ≡ Some (kernel.column_value texts cells)
  column_there texts = ap column_by_row (columns_there texts t parts parts_is) ∙ within_ok {K = List Label} _ _ (answered texts)

  abbrev pub stacked_table : NumberedTable
  stacked_table = table_with Series (stacked_axis t) record { columns_name = None; labels = None ∷ [] } (table_column cells ∷ [])

  abbrev no_cells : ColumnValue
  no_cells = record { kind = Int64; cells = [] }

  abbrev as_stacked : Table → Table
  as_stacked v = stacked v (unwrap_or (column_by_row (map value_of_column v.columns)) no_cells)

  stacked_seen : (texts : List Text) → stacked (table_value texts t) (kernel.column_value texts cells) ≡ table_value texts stacked_table
  stacked_seen texts = λ i. record {
    shape = Series;
    columns_name = None;
    level_names = sym (map-append (heading_value texts) t.level_names (t.columns_name ∷ [])) i;
    labels = sym (labels_seen texts t) i;
    headings = None ∷ [];
    columns = column_value texts (table_column cells) ∷ [];
  }

  table_seen : (texts : List Text) → as_stacked (table_value texts t) ≡ table_value texts stacked_table
  table_seen texts = ap (λ o. stacked (table_value texts t) (unwrap_or o no_cells)) (column_there texts) ∙ stacked_seen texts

  pub stack_made : (texts : List Text) (made : NumberedTable) → IsKnownTable texts t → length t.level_names ≤ 3 → within_limits (length t.labels * length t.columns) 1 ≡ true → made ≡ stacked_table → Makes texts (Ok made) (stack_result (table_value texts t))
  stack_made texts made known few within is = rw is (
    stack_by texts t _ (column_there texts)
        ∙ levels_within texts _ _ _ (length-map t.level_names _) few
        ∙ limited_within (stacked (table_value texts t) (kernel.column_value texts cells)) _ 1 (labels_counted texts t known.whole) refl within
        ∙ ap (λ v. Ok (table v)) (stacked_seen texts),
    settled_by table_value table_value as_stacked texts t stacked_table table_seen known.given,
  )

pub ruleset stacked_tuple = (label_written, tuple_made, length-set)

pub ruleset push_row = (one_more_heading, take_all)

pub ruleset stacked_rows = (one_more_row, take_all)

pub ruleset named_levels = (size_kept, name_written, axis_made, stacked_levels, length-replicate)
