-- Calls behind `groupby` make valid tables of valid ones.
use Rattle.{
  meaning_script.{proofs.{cells.Common.{rules, ◌≡◌, refl, ℕ, ◌<◌, ◌≤◌, List, [], ◌∷◌, length, map, arith, nat_tests, length-map, All-filter, All-append, Bool, true, false, slice_index_or, codes, Option, Some, None, IsSome, Result, IfOk, All, Shape, Series, Frame, Text, CellValue, na_cell, Kind, Int64, ColumnValue, ColumnFault, cell_label, cumulation_takes, FaultValue}, align.OrderLaws.{all_in_order, all_distinct}}, specs.{tables.{Table.{Table, column_at}, Value.{Entry, Given, GivenList, NamedGiven}}, call.Binding.{Bound}, form.{Finish.{limited, default_labels, value_of_column, column_of_value, made_column}, Select.{argument_columns, labels_of}}, select.Select.{shown_as}, group.{Keys.{KeyRules, is_kept, ordered_if, group_keys}, Rows.{GroupsValue, cells_of_group, rows_of_group}, Reductions.{GroupReduction, earlier, later, group_cell, group_kind, reduced_cells, column_if_taken, reduce_groups, transform_groups, of_group, running_cell, cumsum_groups, group_sizes, group_places}}, method.{Rows.{labels_in}, Groups.{Grouping, Values, GroupCall, reduced, size, transformed, cumsum, cumcount, row_keys, keys_of, groups_of, each_of, under_keys, key_column, beside_keys, grouped_rows, same_rows, headings_of, group_answer, of_bound, grouping_in, grouping_of, values_named, values_in, group_call_of, grouped_frame, grouped_of, grouped_result}}}},
  std.proofs.lemmas.List.{length-append},
  meaning_laws.{specs.Validity.{IsValidObject, IsValidEntry}, proofs.{Words.{AllOf, Keeps, Column, Name, Tuple, Cells, Below, Levelled, IsFrame}, ListLaws.{all_made, all_mapped, all_tabulated, length_tabulate, at_or, then_keeps, any_then, try_keeps, if_keeps}, ColumnLaws.{IsColumn, if_made, Held, wrap_fits, fold_keeps, unless_held, reduction_held, cumulation_held}, TableLaws.{IsShaped, some_labelled, column_of_table, unless_keeps, argument_column_found, argument_columns_found}, ReachLaws.{some_below}, RowLaws.{cells_have}, SetLaws.{length_default, default_levels}, InfixLaws.{gap_held}}},
}
use Rattle.meaning_script.specs.cells.Reduce as reduction
use Rattle.meaning_script.specs.cells.Cumulate as cumulation
use Rattle.meaning_script.specs.group.Reductions as groups

-- the cells of groups

group_cell_held : (op : GroupReduction) (kind : Kind) (cells : Cells) → All (Held kind) cells → Held (group_kind op kind) (group_cell op cells)
group_cell_held groups.min kind cells h = reduction_held reduction.min kind cells h
group_cell_held groups.max kind cells h = reduction_held reduction.max kind cells h
group_cell_held groups.nunique kind cells h = search wrap_fits
group_cell_held groups.first kind cells h = fold_keeps (Held kind) (Held kind) earlier (grind arith) na_cell refl _ (All-filter _ (Held kind) _ h)
group_cell_held groups.last kind cells h = fold_keeps (Held kind) (Held kind) later (λ a b _ k. k) na_cell refl _ (All-filter _ (Held kind) _ h)
group_cell_held _ kind cells h = search reduction_held

cells_held : (kind : Kind) (group : ℕ) (codes : List (Option ℕ)) (cells : Cells) → All (Held kind) cells → All (Held kind) (cells_of_group group codes cells)
cells_held kind group codes cells h = all_mapped (Held kind) (λ row. slice_index_or cells row na_cell) (λ row. at_or (Held kind) _ row _ refl h) (rows_of_group group codes)

reduced_held : (op : GroupReduction) (kind : Kind) (g : GroupsValue) (cells : Cells) → All (Held kind) cells → All (Held (group_kind op kind)) (reduced_cells op g cells)
reduced_held = search (all_tabulated, group_cell_held, cells_held)

of_group_held : (kind : Kind) (o : Option ℕ) (f : ℕ → CellValue) → ((group : ℕ) → Held kind (f group)) → Held kind (of_group o f)
of_group_held = grind arith

running_held : (kind : Kind) (codes : List (Option ℕ)) (cells : Cells) (row : ℕ) → All (Held kind) cells → cumulation_takes cumulation.sum kind ≡ true → Held Int64 (running_cell codes cells row)
running_held = search (of_group_held, unless_held, cumulation_held, cells_held)

-- what is made of a column: a cell for each group, or for each row
abbrev pub Makes : (ColumnValue → Result ColumnValue ColumnFault) → ℕ → ℕ → Type 0
Makes f rows made = (c : Column) → IsColumn rows c → IfOk (made_column (f (value_of_column c))) (IsColumn made)

module _ (op : GroupReduction) where
  if_taken : (kind : Kind) (cells : Cells) (rows : ℕ) → length cells ≡ rows → All (Held (group_kind op kind)) cells → IfOk (made_column (column_if_taken op kind cells)) (IsColumn rows)
  if_taken = grind arith

  module _ (g : GroupsValue) (rows : ℕ) where
    pub reduce_makes : Makes (reduce_groups op g) rows g.count
    reduce_makes c h = search (if_taken, length_tabulate, reduced_held)

    transform_makes : length g.codes ≡ rows → Makes (transform_groups op g) rows rows
    transform_makes as_many c h = search (if_taken, length-map, all_mapped, gap_held, reduced_held)

cumsum_makes : (g : GroupsValue) (rows : ℕ) → length g.codes ≡ rows → Makes (cumsum_groups g) rows rows
cumsum_makes g rows as_many c h = search (if_made, length_tabulate, all_tabulated, running_held)

abbrev pub AreBelow : Table → List ℕ → Type 0
AreBelow t places = Below (length t.columns) places

pub each_makes : (t : Table) (f : ColumnValue → Result ColumnValue ColumnFault) (made : ℕ) → IsShaped t → Makes f (length t.labels) made → (places : List ℕ) → AreBelow t places
    → IfOk (each_of t f places) (AllOf (IsColumn made) (length places))
each_makes t f made s so places below =
    try_keeps (λ place. place < length _) _ (λ place. made_column (f (value_of_column (column_at t.columns place)))) (λ place lt. so (column_at t.columns place) (column_of_table t s place lt)) places below

-- the keys of groups are keys of rows

module _ {K : Type 0} (P : K → Type 0) where
  all_ordered : (sorted : Bool) (less : K → K → Bool) (ks : List K) → All P ks → All P (ordered_if sorted less ks)
  all_ordered true less ks all = all_in_order P _ ks all
  all_ordered false less ks all = all

  all_keys : (rules : KeyRules K) (sorted dropna : Bool) (rows : List K) → All P rows → All P (group_keys rules sorted dropna rows)
  all_keys rules sorted dropna rows all = All-filter (is_kept dropna rules.holds_na) P _ (search (all_ordered, all_distinct))

pub rows_have : (t : Table) (keys : List ℕ) → Levelled (length keys) (row_keys t keys)
rows_have t keys =
    let cells = cells_have t keys in
    search (all_made, length-map)

codes_counted : (t : Table) (g : Grouping) → length (groups_of t g).codes ≡ length t.labels
codes_counted = grind (arith, length-map, length_tabulate)

-- tables that are shaped but for their headings, which are those of a frame

pub record IsBody (t : Table) : Type 0 where
  pub some : 1 ≤ length t.level_names
  pub few : length t.level_names ≤ 4
  pub levels : Levelled (length t.level_names) t.labels
  pub headed : length t.headings ≡ length t.columns
  pub columns : All (IsColumn (length t.labels)) t.columns
  pub frame : IsFrame t

abbrev pub AreLabels : List Name → Type 0
AreLabels hs = All IsSome hs

one_heading : (hs : List Name) → length hs ≡ 1 → (h : Name) × (hs ≡ h ∷ [])
one_heading (h ∷ []) e = (h, refl)
one_heading _ e = grind arith

module _ (t : Table) (b : IsBody t) where
  pub frame_keeps : AreLabels t.headings → Keeps (limited t)
  frame_keeps = grind arith

  series_keeps : length t.headings ≡ 1 → Keeps (shown_as false true t)
  series_keeps = grind (arith, one_heading)

shown_keeps : (single : Bool) (t : Table) → IsBody t → (single ≡ true → length t.headings ≡ 1) → (single ≡ false → AreLabels t.headings) → Keeps (shown_as false single t)
shown_keeps single t b one some = grind (arith, series_keeps, frame_keeps)

-- what `groupby` and the brackets say

pub record IsGrouping (t : Table) (g : Grouping) : Type 0 where
  pub keys : AreBelow t g.keys
  pub some : 1 ≤ length g.keys
  pub few : g.as_index ≡ true → length g.keys ≤ 4

pub record AreValues (t : Table) (v : Values) : Type 0 where
  pub places : AreBelow t v.places
  pub single : v.single ≡ true → length v.places ≡ 1

-- a row for each group

module _ (t : Table) (g : Grouping) where
  pub under_body : (hs : List Name) (columns : List Column) → 1 ≤ length g.keys → length g.keys ≤ 4 → length hs ≡ length columns → All (IsColumn (length (keys_of t g))) columns → IsBody (under_keys t g hs columns)
  under_body = search (length-map, all_keys, rows_have)

  key_columns_held : IsShaped t → AreBelow t g.keys → All (IsColumn (length (keys_of t g))) (map (key_column t g) g.keys)
  key_columns_held s below =
      all_made (λ place. place < length _) (IsColumn (length (keys_of t g))) _
      (λ place lt. record {
        filled = search length_tabulate;
        held = reduced_held groups.first _ (groups_of t g) _ (column_of_table t s place lt).held;
      }) g.keys below

  beside_body : (hs : List Name) (columns : List Column) → IsShaped t → AreBelow t g.keys → length hs ≡ length columns → All (IsColumn (length (keys_of t g))) columns → IsBody (beside_keys t g hs columns)
  beside_body hs columns s below headed held =
      let rows : length (keys_of t g) ≡ length (default_labels (length (keys_of t g))) = search length_default in
      let all = All-append (IsColumn (length (keys_of t g))) (map (key_column t g) g.keys) columns (key_columns_held s below) held in
      grind (arith, default_levels, length-map, length-append)

  rows_keep : (single : Bool) (hs : List Name) (columns : List Column) → IsShaped t → IsFrame t → IsGrouping t g → length hs ≡ length columns → All (IsColumn (length (keys_of t g))) columns → (single ≡ true → length hs ≡ 1) → (g.as_index ≡ true → single ≡ false → AreLabels hs) → (g.as_index ≡ false → AreLabels hs) → Keeps (grouped_rows t g single hs columns)
  rows_keep single hs columns s is k headed held one labels others =
      if_keeps _ _ _ _
      (λ e. shown_keeps _ _ (under_body hs _ k.some (k.few e) headed held) one (labels e))
      (λ e. unless_keeps IsValidEntry _ _ (frame_keeps _ (beside_body hs _ s k.keys headed held) (All-append IsSome (headings_of t g.keys) hs (some_labelled t s is g.keys k.keys) (others e))))

pub one_column : (rows : ℕ) (c : Column) → IsColumn rows c → All (IsColumn rows) (c ∷ [])
one_column = grind arith

-- the rows as they are

same_keep : (t : Table) (single : Bool) (hs : List Name) (columns : List Column) → IsShaped t → IsFrame t → length hs ≡ length columns → All (IsColumn (length t.labels)) columns
    → (single ≡ true → length hs ≡ 1) → (single ≡ false → AreLabels hs) → Keeps (same_rows t single hs columns)
same_keep = grind (arith, series_keeps, frame_keeps)

module _ (t : Table) (s : IsShaped t) (is : IsFrame t) (g : Grouping) (k : IsGrouping t g) (v : Values) (w : AreValues t v) where
  counted : (columns : List Column) → length columns ≡ length v.places → length (headings_of t v.places) ≡ length columns
  counted = grind (arith, length-map)

  single_one : v.single ≡ true → length (headings_of t v.places) ≡ 1
  single_one = grind (arith, length-map)

  own_labels : AreLabels (headings_of t v.places)
  own_labels = search some_labelled

  answer_keeps : (call : GroupCall) → Keeps (group_answer t g v call)
  answer_keeps (reduced op) =
      then_keeps (AllOf (IsColumn (length (keys_of t g))) (length v.places)) _ _ _
      (each_makes t (reduce_groups op (groups_of t g)) _ s (reduce_makes op (groups_of t g) _) v.places w.places)
      (λ columns made. rows_keep t g _ _ _ s is k (counted _ made.0) made.1 single_one (λ _ _. own_labels) (λ _. own_labels))
  answer_keeps size =
      rows_keep t g true _ (column_of_value (group_sizes (groups_of t g)) ∷ []) s is k refl (search (one_column, length_tabulate, all_tabulated, wrap_fits)) (λ _. refl) (λ _ e. cc) (grind arith)
  answer_keeps (transformed op) =
      then_keeps (AllOf (IsColumn (length t.labels)) (length v.places)) _ _ _
      (each_makes t (transform_groups op (groups_of t g)) _ s (search (transform_makes, codes_counted)) v.places w.places)
      (λ columns made. same_keep t _ _ _ s is (counted _ made.0) made.1 single_one (λ _. own_labels))
  answer_keeps cumsum =
      then_keeps (AllOf (IsColumn (length t.labels)) (length v.places)) _ _ _
      (each_makes t (cumsum_groups (groups_of t g)) _ s (cumsum_makes (groups_of t g) _ (codes_counted t g)) v.places w.places)
      (λ columns made. same_keep t _ _ _ s is (counted _ made.0) made.1 single_one (λ _. own_labels))
  answer_keeps cumcount =
      same_keep t true _ (column_of_value (group_places (groups_of t g)) ∷ []) s is refl (search (one_column, length_tabulate, all_tabulated, of_group_held, wrap_fits, codes_counted)) (λ _. refl) (λ e. cc)

-- the arguments

of_bound_keeps : {A : Type 0} (P : A → Type 0) (read : List Given → Result A FaultValue) (b : Bound) → ((gs : List Given) → IfOk (read gs) P) → IfOk (of_bound read b) P
of_bound_keeps P = grind arith

pub places_found : (t : Table) → IsShaped t → (ls : Tuple) → IfOk (argument_columns t ls) (AreBelow t)
places_found t s ls =
    let found = argument_columns_found t ls in
    let headed = s.headed in
    grind arith

pub record AreKeys (t : Table) (as_index : Bool) (keys : List ℕ) : Type 0 where
  pub below : AreBelow t keys
  pub some : 1 ≤ length keys
  pub few : as_index ≡ true → length keys ≤ 4

module _ (t : Table) (s : IsShaped t) where
  grouping_in_keeps : (gs : List Given) → IfOk (grouping_in t gs) (IsGrouping t)
  grouping_in_keeps (by ∷ sort ∷ dropna ∷ as_index ∷ []) =
      let found = places_found t s (labels_in by) in
      grind (arith, nat_tests)
  grouping_in_keeps gs = tt

  -- the brackets

  named_keep : (o : Option CellValue) (parts : Option GivenList) → IfOk (values_named t o parts) (AreValues t)
  named_keep (Some c) parts =
      let found = argument_column_found t (cell_label c) in
      grind (arith, s.headed)
  named_keep None (Some parts) =
      let found = places_found t s (labels_of parts) in
      grind (arith, then_keeps)
  named_keep None None = tt

  values_keep : (keys : List ℕ) (brackets : Option Given) → IfOk (values_in t keys brackets) (AreValues t)
  values_keep keys None = record { places = some_below _ _; single = λ e. cc }
  values_keep keys (Some g) = search named_keep

  frame_of_keeps : IsFrame t → (by : List NamedGiven) (brackets : Option Given) (name : Text) (gs : List NamedGiven) → Keeps (grouped_frame t by brackets name gs)
  frame_of_keeps is by brackets name gs =
      then_keeps (IsGrouping t) IsValidEntry (grouping_of t by) _ (search (of_bound_keeps, grouping_in_keeps))
      (λ g k. then_keeps (AreValues t) IsValidEntry (values_in t g.keys brackets) _ (values_keep g.keys brackets)
      (λ v w. any_then IsValidEntry (group_call_of name gs) _ (answer_keeps t s is g k v w)))

grouped_of_keeps : (shape : Shape) (t : Table) → IsShaped t → t.shape ≡ shape → (by : List NamedGiven) (brackets : Option Given) (name : Text) (gs : List NamedGiven) → Keeps (grouped_of shape t by brackets name gs)
grouped_of_keeps Series t s is by brackets name gs = tt
grouped_of_keeps Frame t s is by brackets name gs = search frame_of_keeps

-- a call behind `groupby`
pub grouped_result_keeps : (v : Entry) (by : List NamedGiven) (brackets : Option Given) (name : Text) (gs : List NamedGiven) → IsValidObject v → Keeps (grouped_result v by brackets name gs)
grouped_result_keeps = grind (arith, grouped_of_keeps)
