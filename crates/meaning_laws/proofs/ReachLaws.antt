-- What keys reach lies in the table.
use Rattle.{
  meaning_script.{proofs.{cells.Common.{rules, Bool, filter, ◌≡◌, ℕ, ◌<◌, ◌≤◌, List, [], ◌∷◌, length, arith, ◌∙◌, refl, ap, sym, ◌-◌, drop, map, nat_tests, length-map, length-drop, All-filter, get_or-range_with_len, length-range_with_len, true, Option, Some, None, Result, Ok, IfOk, false, slice_index_or, All, range_with_len, list_all, as_long, Shape, Series, Frame, Kind, na_cell, Accessor, FaultValue, then_value}, tables.KindLaws.{kind_is}, pick.{InsideLaws.{ok_same, went_on, mask_inside}, KeyLaws.{picked_inside, placed_inside}}}, specs.{tables.{Table.{Table, column_at}, Value.{Entry, cell, table, GivenSub, one, many, key_given}, Valid.{AreHeadings}}, form.{Finish.{column_labels, same_kind}, Infix.{same_tuple}, Select.{heading_at, length_result}}, pick.{Faults.{PickFault, then_pick}, Keys.{LabelKey, one_key, Pick, key_pick, listed_pick}, Masks.{masked_rows}}, select.{Keys.{found_pick, found_labels, label_key, whole_key, label_pick, marks_of, mask_pick, loc_rows, loc_columns, once, at_rows, rows_by, columns_by, all_rows_of, reach_of, reach_by, Reach}, Select.{column_reach, item_reach, Way, way_reach, select_result, rows_taken, without_leading, cut, as_series, first_cell, kind_across, row_series, row_result, shown_as, picked_result}}}},
  meaning_laws.{specs.Validity.{IsValidObject, IsValidEntry, IsHeldCell}, proofs.{Words.{Has, Tuple, Below, IsFrame, Keeps, Column, Name}, ListLaws.{length_tabulate, then_keeps, any_then, all_made, all_mapped, all_pass, at_or}, TableLaws.{IsShaped, some_labelled, shaped, one_column, limited_keeps, column_of_table, series_heading, frame_headings}, ColumnLaws.{IsColumn, Held, na_held, held_cell, wrap_fits}}},
}

-- selections
-- what is reached lies in the table, of whose levels one is left; single columns are one, and where they aren't single the
-- table is a frame
pub record IsReach (t : Table) (reach : Reach) : Type 0 where
  pub rows : Below (length t.labels) reach.rows.rows
  pub levels : reach.rows.dropped < length t.level_names
  pub columns : Below (length t.columns) reach.columns.rows
  pub one : reach.columns.single ≡ true → length reach.columns.rows ≡ 1
  pub frame : reach.columns.single ≡ false → IsFrame t

-- a cell of a column
pub cell_of_column : (rows : ℕ) (c : Column) (k : ℕ) → IsColumn rows c → Held c.kind (slice_index_or c.cells k na_cell)
cell_of_column rows c k h = at_or (Held c.kind) _ k _ (na_held c.kind) h.held

-- some rows of a table
pub rows_shaped : (t : Table) (rows : List ℕ) → IsShaped t → Below (length t.labels) rows → IsShaped (rows_taken t rows)
rows_shaped t rows s inside =
    let levels = all_made (λ row. row < length t.labels) (Has (length t.level_names)) (λ row. slice_index_or t.labels row []) (λ row lt. s.levels row [] lt) rows inside in
    search (length-map, all_made, all_mapped, cell_of_column)

-- without its leading levels
pub leading_shaped : (t : Table) (count : ℕ) → IsShaped t → count < length t.level_names → IsShaped (without_leading count t)
leading_shaped t count s left =
    let levels : length (drop count t.level_names) ≡ length t.level_names - count = search length-drop in
    record {
      some = omega (arith, levels, left);
      few = omega (arith, levels, s.few);
      levels = all_made (Has (length _)) (Has (length (drop count t.level_names))) _ (λ tuple same. length-drop count _ ∙ ap (λ n. n - count) same ∙ sym levels) t.labels s.levels;
      headed = s.headed;
      columns = grind (arith, length-map);
      headings = s.headings;
    }

module _ (t : Table) where
  module _ (rows places : List ℕ) where
    cut_columns : IsShaped t → Below (length t.columns) places → All (IsColumn (length (cut t rows places).labels)) (cut t rows places).columns
    cut_columns s below = rw (length-map rows (λ row. slice_index_or t.labels row [])) (all_made (IsColumn (length t.labels)) (IsColumn (length rows)) _ (search (length-map, all_mapped, cell_of_column)) (map (column_at t.columns) places)
        (search (all_made, column_of_table)))

    -- under headings that fit they are a table
    cut_shaped : (shape : Shape) (name : Name) → IsShaped t → Below (length t.labels) rows → Below (length t.columns) places → AreHeadings shape name (map (heading_at t) places) → IsShaped (record (cut t rows places) { shape = shape; columns_name = name })
    cut_shaped shape name s inside below headings =
        let levels = (rows_shaped t rows s inside).levels in
        search (length-map, cut_columns)

  -- one column as a Series
  one_heading : (places : List ℕ) → length places ≡ 1 → AreHeadings Series None (map (heading_at t) places)
  one_heading (place ∷ []) e = search series_heading
  one_heading _ e = cc

  module _ (count : ℕ) (rows places : List ℕ) (s : IsShaped t) where
    series_keeps : count < length t.level_names → Below (length t.labels) rows → Below (length t.columns) places → length places ≡ 1 → Keeps (shown_as false true (without_leading count (cut t rows places)))
    series_keeps left inside below e =
        let made = as_series (cut t rows places) in
        limited_keeps (without_leading count made) (search (leading_shaped, cut_shaped, one_heading))

    -- a frame
    frame_keeps : IsFrame t → count < length t.level_names → Below (length t.labels) rows → Below (length t.columns) places → Keeps (shown_as false false (without_leading count (cut t rows places)))
    frame_keeps is left inside below =
        let some = some_labelled t s is places below in
        search (limited_keeps, leading_shaped, cut_shaped, frame_headings)

-- a row across columns of one kind
module _ (count : ℕ) (kind : Kind) where
  first_held : (c : Column) → IsColumn count c → same_kind c.kind kind ≡ true → Held kind (first_cell c)
  first_held = grind (arith, kind_is, cell_of_column)

  firsts_held : (cs : List Column) → All (IsColumn count) cs → list_all (λ c. same_kind c.kind kind) cs ≡ true → All (Held kind) (map first_cell cs)
  firsts_held cs h e =
      let alike = all_pass (λ c. same_kind c.kind kind) cs e in
      all_made (λ c. IsColumn count c × (same_kind c.kind kind ≡ true)) (Held kind) _ (λ c both. first_held c both.0 both.1) cs (λ k d lt. (h k d lt, alike k d lt))

row_shaped : (t : Table) (kind : Kind) → length t.headings ≡ length t.columns → All (Held kind) (map first_cell t.columns) → IsShaped (row_series t kind)
row_shaped t kind headed held = record {
  some = omega arith;
  few = omega arith;
  levels = search all_mapped;
  headed = refl;
  columns = grind (arith, length-map);
  headings = search series_heading;
}

row_keeps : (t : Table) (count : ℕ) → length t.headings ≡ length t.columns → All (IsColumn count) t.columns → Keeps (row_result t)
row_keeps t count headed columns =
    let fits : list_all (λ c. same_kind c.kind (kind_across t.columns)) t.columns ≡ true → IsShaped (row_series t (kind_across t.columns)) = search (row_shaped, firsts_held) in
    grind (arith, limited_keeps)

-- one cell
cell_keeps : (count : ℕ) (cs : List Column) → All (IsColumn count) cs → IsHeldCell (first_cell (column_at cs 0))
cell_keeps count [] h = refl
cell_keeps count (c ∷ cs) h = held_cell c.kind _ (cell_of_column count c 0 (h 0 c (omega arith)))

-- what a table gives of what is reached
pub picked_keeps : (t : Table) (reach : Reach) → IsShaped t → IsReach t reach → Keeps (picked_result t reach)
picked_keeps t reach s r =
    let rows = reach.rows.rows in
    let places = reach.columns.rows in
    let columns = cut_columns t rows places s r.columns in
    let cell = cell_keeps _ _ columns in
    let series = series_keeps t _ rows places s r.levels r.rows r.columns in
    let row = row_keeps (without_leading reach.rows.dropped (cut t rows places)) _ (search length-map) columns in
    let frame = frame_keeps t reach.rows.dropped rows places s in
    grind (arith, r.one, r.frame)

-- the number of rows
pub length_result_keeps : (v : Entry) → Keeps (length_result v)
length_result_keeps = grind (arith, wrap_fits)

-- what is reached
-- a pick of so many places, of which a single one is one, and which leaves one of so many levels
record IsPick (levels count : ℕ) (p : Pick) : Type 0 where
  inside : Below count p.rows
  one : p.single ≡ true → length p.rows ≡ 1
  left : p.dropped < levels

-- what a way of picking says of each pick: a single one is one row, and a level is left
record IsLeft (levels : ℕ) (p : Pick) : Type 0 where
  one : p.single ≡ true → length p.rows ≡ 1
  left : p.dropped < levels

key_is : {L : Type 0} (levels : ℕ) (key : List L) (rows : List ℕ) → 1 ≤ levels → IsLeft levels (key_pick levels key rows)
key_is = grind (arith, nat_tests)

-- what was made of rows that were found
picked_is : {A K : Type 0} (levels : ℕ) (r : Result A (PickFault K)) (go : A → Pick) (p : Pick) → ((a : A) → IsLeft levels (go a)) → then_pick r (λ a. Ok (go a)) ≡ Ok p → IsLeft levels p
picked_is = grind (arith, went_on, ok_same)

-- what was found is a pick
pub found_is : {A : Type 0} (P : A → Type 0) (r : Result A (PickFault Tuple)) → ((a : A) → r ≡ Ok a → P a) → IfOk (found_pick r) P
found_is P = grind arith

module _ (levels : ℕ) (tuples : List Tuple) where
  found_labels_is : (key : LabelKey Tuple) → 1 ≤ levels → IfOk (found_labels levels tuples key) (IsPick levels (length tuples))
  found_labels_is = grind (arith, found_is, ok_same, picked_is, key_is, picked_inside)

  label_pick_is : (k : GivenSub) → 1 ≤ levels → IfOk (label_pick levels tuples k) (IsPick levels (length tuples))
  label_pick_is k some = any_then _ (label_key levels k) _ (λ key. found_labels_is key some)

-- a mask
module _ (t m : Table) (some : 1 ≤ length t.level_names) where
  abbrev masked : Result Pick FaultValue
  masked = then_value (found_pick (masked_rows same_tuple t.labels m.labels (marks_of m))) (λ rows. Ok (listed_pick rows))

  marks_count : length (marks_of m) ≡ length m.labels
  marks_count = grind (arith, length-map, length_tabulate)

  masked_is : IfOk masked (IsPick (length t.level_names) (length t.labels))
  masked_is = grind (arith, found_is, mask_inside, marks_count, as_long)

  mask_pick_is : IfOk (mask_pick t m) (IsPick (length t.level_names) (length t.labels))
  mask_pick_is = grind (arith, masked_is)

-- the rows and the columns of a key
module _ (t : Table) (s : IsShaped t) where
  abbrev AreRows : Pick → Type 0
  AreRows p = IsPick (length t.level_names) (length t.labels) p

  by_labels : (k : GivenSub) → IfOk (label_pick (length t.level_names) t.labels k) AreRows
  by_labels = grind (arith, label_pick_is)

  loc_rows_is : (k : GivenSub) → IfOk (loc_rows t k) AreRows
  loc_rows_is (key_given (one (table m))) = mask_pick_is t m s.some
  loc_rows_is k = search by_labels

  once_is : (key : Tuple) (p : Pick) → AreRows p → IfOk (once key p) AreRows
  once_is = grind arith

  at_rows_is : (k : GivenSub) → IfOk (at_rows t k) AreRows
  at_rows_is k =
      any_then _ (whole_key (length t.level_names) k) _
      (λ key. then_keeps _ _ _ _ (found_labels_is (length t.level_names) t.labels (one_key key) s.some) (once_is key))

module _ (t : Table) (k : GivenSub) (s : IsShaped t) where
  labels_pick_is : IfOk (label_pick 1 (column_labels t) k) (IsPick 1 (length t.columns))
  labels_pick_is = search (rules, length-map, label_pick_is)

  loc_columns_is : IfOk (loc_columns t k) (IsPick 1 (length t.columns))
  loc_columns_is =
      let labels = labels_pick_is in
      grind arith

module _ (by : Accessor) (t : Table) (k : GivenSub) (s : IsShaped t) where
  rows_by_is : IfOk (rows_by by t k) (IsPick (length t.level_names) (length t.labels))
  rows_by_is = grind (arith, loc_rows_is, then_keeps, any_then, found_is, picked_is, placed_inside, at_rows_is)

  columns_by_is : IfOk (columns_by by t k) (IsPick 1 (length t.columns))
  columns_by_is = grind (arith, loc_columns_is, then_keeps, any_then, found_is, picked_is, placed_inside)

-- all places, and the only one
pub below_all : (count : ℕ) → Below count (range_with_len 0 count)
below_all = grind (arith, length-range_with_len, get_or-range_with_len)

-- some of them
pub some_below : (p : ℕ → Bool) (count : ℕ) → Below count (filter p (range_with_len 0 count))
some_below p count = All-filter p (λ place. place < count) _ (below_all count)

first_below : (count : ℕ) → 0 < count → Below count (0 ∷ [])
first_below = grind arith

-- what is reached
frame_reach_of : (t : Table) (rows columns : Result Pick FaultValue) → IsFrame t → IfOk rows (IsPick (length t.level_names) (length t.labels)) → IfOk columns (IsPick 1 (length t.columns)) → IfOk (reach_of rows columns) (IsReach t)
frame_reach_of = grind arith

reach_by_is : (p : Shape) (by : Accessor) (t : Table) (first : GivenSub) (second : Option GivenSub) → IsShaped t → t.shape ≡ p → IfOk (reach_by p by t first second) (IsReach t)
reach_by_is = grind (arith, then_keeps, first_below, one_column, rows_by_is, any_then, frame_reach_of, below_all, columns_by_is)

-- brackets on a frame
all_rows_are : (t : Table) → IsShaped t → IsPick (length t.level_names) (length t.labels) (all_rows_of t)
all_rows_are = grind (arith, below_all)

column_reach_is : (t : Table) (k : GivenSub) → IsShaped t → IsFrame t → IfOk (column_reach t k) (IsReach t)
column_reach_is t k s is = frame_reach_of t (Ok (all_rows_of t)) (loc_columns t k) is (all_rows_are t s) (loc_columns_is t k s)

item_reach_is : (p : Shape) (t : Table) (first : GivenSub) (second : Option GivenSub) → IsShaped t → t.shape ≡ p → IfOk (item_reach p t first second) (IsReach t)
item_reach_is Series t first second s is = search reach_by_is
item_reach_is Frame t (key_given (one (cell c))) None s is = column_reach_is t (key_given (one (cell c))) s is
item_reach_is Frame t (key_given (many parts)) None s is = column_reach_is t (key_given (many parts)) s is
item_reach_is Frame t first None s is = grind (arith, frame_reach_of, mask_pick_is, below_all)
item_reach_is Frame t first (Some second) s is = tt

pub way_reach_is : (way : Way) (t : Table) (first : GivenSub) (second : Option GivenSub) → IsShaped t → IfOk (way_reach way t first second) (IsReach t)
way_reach_is = grind (arith, item_reach_is, reach_by_is)

-- what is selected from a value
pub select_result_keeps : (v : Entry) (way : Way) (first : GivenSub) (second : Option GivenSub) → IsValidObject v → IfOk (select_result v way first second) IsValidEntry
select_result_keeps (cell c) way first second v = tt
select_result_keeps (table t) way first second v =
    then_keeps (IsReach t) _ (way_reach way t first second) _ (way_reach_is way t first second (shaped t v)) (λ reach r. picked_keeps t reach (shaped t v) r)
