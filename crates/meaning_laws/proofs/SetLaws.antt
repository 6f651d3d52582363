-- Settings and removals leave valid tables.
use Rattle.{
  meaning_script.{proofs.{cells.Common.{rules, ◌≡◌, ◌∙◌, ap, refl, sym, subst, ℕ, zero, suc, ◌+◌, ◌%◌, ◌/◌, ◌≤◌, nat_eq, List, [], ◌∷◌, fold, length, arith, nat_tests, length-map, length-set, length-map-range_with_len, length-range_with_len, All-cons, All-head, All-tail, All-append, All-set, mul-le, Bool, true, ◌&&◌, nat_le, slice_index, Option, Some, None, IsSome, IfSome, Result, Ok, IfOk, All, CellValue, na_cell, LabelValue, holds, Accessor, FaultValue, then_value}, align.FoundLaws.{reindexed_count}}, specs.{tables.{Table.{Table, column_at}, Change.{with_column, with_cell, with_values_from}, Valid.{IsValid, within_limits}, Value.{Entry, Given, GivenSub}}, form.{Finish.{default_labels, missing_column, column_labels}, Select.{columns_frame, places_besides}, Set.{list_column}}, pick.Keys.{Pick}, align.Faults.{AlignRefusal, met_rows}, select.{Select.{Way}, Set.{SetValue, same, listed, aligned, set_value, with_labelled, places_to_put, put_result, with_rows, list_set, aligned_rows, column_at_rows, aligned_column, series_set, column_set, Reached, or_added, rows_set, Target, target_of, with_gap, with_row, kind_of_value, with_new_column, fit_from, filled_table, target_set, access_set, assign_result, removal_result}}}},
  std.proofs.lemmas.List.{length-append},
  meaning_laws.{specs.Validity.{IsValidObject, IsHeldCell, IsValidGiven}, proofs.{Words.{Has, Column, Name, Tuple, Cells, Levelled, IsFrame, IsSeries}, ListLaws.{both_true, all_made, all_mapped, then_keeps, any_then, All-put_at, length-put_at, length_filter, of_length_keeps, where_keeps}, ColumnLaws.{IsColumn, list_keeps, spread_column, Held, na_held}, TableLaws.{IsShaped, shaped, valid, limited_table_keeps, column_of_table, frame_headings, one_column}, InfixLaws.{gap_held}, ReachLaws.{some_below}, RowLaws.{kept_shaped}}},
}

-- a column under a label at a place
placed_shaped : (t : Table) (place : ℕ) (l : LabelValue) (c : Column) → IsShaped t → IsFrame t → IsColumn (length t.labels) c → IsShaped (with_column t place (Some l) c)
placed_shaped t place l c s is h =
    let columns = All-put_at (IsColumn (length t.labels)) t.columns place c s.columns h in
    let headings = frame_headings _ t.columns_name _ is (All-put_at IsSome t.headings place (Some l) (s.headings.labelled is) refl) in
    search length-put_at

-- a column in the places of its label, or last
each_shaped : (places : List ℕ) (t : Table) (l : LabelValue) (c : Column) → IsShaped t → IsFrame t → IsColumn (length t.labels) c → IsShaped (fold (λ u place. with_column u place (Some l) c) t places)
each_shaped [] t l c s is h = s
each_shaped (place ∷ places) t l c s is h = each_shaped places (with_column t place (Some l) c) l c (placed_shaped t place l c s is h) is h

put_keeps : (t : Table) (l : LabelValue) (c : Column) → IsShaped t → IsFrame t → IsColumn (length t.labels) c → IfOk (put_result t l c) IsValid
put_keeps t l c s is h = limited_table_keeps (with_labelled t l c) (each_shaped (places_to_put t l) t l c s is h)

pub length_default : (count : ℕ) → length (default_labels count) ≡ count
length_default = search length-map-range_with_len

pub default_levels : (count : ℕ) → Levelled 1 (default_labels count)
default_levels = search all_mapped

-- rows for a frame that has none
record AreRows (labels : List Tuple) (level_names : List Name) : Type 0 where
  some : 1 ≤ length level_names
  few : length level_names ≤ 4
  levels : Levelled (length level_names) labels

rows_shaped : (t : Table) (labels : List Tuple) (level_names : List Name) → IsShaped t → AreRows labels level_names → IsShaped (with_rows t labels level_names)
rows_shaped t labels level_names s r = search (length-map, all_mapped, spread_column, na_held)

list_set_keeps : (t : Table) (l : LabelValue) (c : Column) → IsShaped t → IsFrame t → IsColumn (length c.cells) c → IfOk (list_set t l c) IsValid
list_set_keeps t l c s is h =
    let put = put_keeps (with_rows t (default_labels (length c.cells)) (None ∷ [])) l c (rows_shaped t _ _ s record { some = omega arith; few = omega arith; levels = default_levels (length c.cells) }) is (subst (λ n. IsColumn n c) (sym (length_default _)) h) in
    grind (arith, of_length_keeps, put_keeps)

-- the column of a Series at the rows that labels take
pub met_keeps : {A : Type 0} (P : A → Type 0) (r : Result A (AlignRefusal Tuple)) → IfOk r P → IfOk (met_rows r) P
met_keeps P = grind arith

module _ (level_count : ℕ) (labels : List Tuple) (u : Table) where
  aligned_count : IfOk (aligned_rows level_count labels u) (λ rows. length rows ≡ length labels)
  aligned_count = search (where_keeps, met_keeps, reindexed_count)

  aligned_keeps : All (Held (column_at u.columns 0).kind) (column_at u.columns 0).cells → IfOk (aligned_column level_count labels u) (IsColumn (length labels))
  aligned_keeps held =
      then_keeps (λ rows. length rows ≡ length labels) _ _ _ (aligned_count)
      (λ rows count. subst (λ n. IsColumn n (column_at_rows (column_at u.columns 0) rows)) count (search (length-map, all_mapped, gap_held)))

series_set_keeps : (t : Table) (l : LabelValue) (u : Table) → IsShaped t → IsFrame t → IsShaped u → IsSeries u → IfOk (series_set t l u) IsValid
series_set_keeps t l u s is r is' =
    let fits : IsColumn (length u.labels) (column_at u.columns 0) = grind (arith, column_of_table, one_column) in
    let put = put_keeps (with_rows t u.labels u.level_names) l (column_at u.columns 0) (search rows_shaped) is fits in
    let aligned = aligned_keeps (length t.level_names) t.labels u fits.held in
    grind (arith, put_keeps)

-- the value of a setting is valid
abbrev pub IsValidValue : SetValue → Type 0
IsValidValue (same c) = IsHeldCell c
IsValidValue (listed cells) = Unit {0}
IsValidValue (aligned u) = IsValid u × (IsSeries u)

set_value_valid : (g : Given) → IsValidGiven g → IfOk (set_value g) IsValidValue
set_value_valid = grind arith

own_column : (cells : Cells) (r : Result Column FaultValue) → IfOk r (IsColumn (length cells)) → IfOk r (λ c. IsColumn (length c.cells) c)
own_column = grind arith

column_set_keeps : (t : Table) (l : LabelValue) (value : SetValue) → IsShaped t → IsFrame t → IsValidValue value → IfOk (column_set t l value) IsValid
column_set_keeps t l (same c) s is h = search (put_keeps, spread_column)
column_set_keeps t l (listed cells) s is h =
    then_keeps (λ c. IsColumn (length c.cells) c) IsValid (list_column cells) (list_set t l) (own_column cells (list_column cells) (list_keeps cells)) (λ c k. list_set_keeps t l c s is k)
column_set_keeps t l (aligned u) s is h = search (series_set_keeps, shaped)

-- a cell that is set keeps every column's kind
kind_kept : (cs : List Column) (place r : ℕ) (x : CellValue) (q : ℕ) → (column_at (with_cell cs place r x) q).kind ≡ (column_at cs q).kind
kind_kept [] place r x q = refl
kind_kept (c ∷ cs) (suc place) r x (suc q) = kind_kept cs place r x q
kind_kept (c ∷ cs) _ r x _ = grind arith

-- cells that fit their columns leave columns
module _ (t : Table) (rows places : List ℕ) where
  abbrev AreKinds : List Column → Type 0
  AreKinds cs = (q : ℕ) → (column_at cs q).kind ≡ (column_at t.columns q).kind

  cell_kept : (count : ℕ) (cs : List Column) (place r : ℕ) (x : CellValue) → All (IsColumn count) cs → holds (column_at cs place).kind x ≡ true → All (IsColumn count) (with_cell cs place r x)
  cell_kept count [] place r x all fits = search
  cell_kept count (c ∷ cs) zero r x all fits =
      let old = All-head (IsColumn count) c cs all in
      let held = All-set (Held c.kind) c.cells r x fits old.held in
      let rest = All-tail (IsColumn count) c cs all in
      search (All-cons, length-set)
  cell_kept count (c ∷ cs) (suc place) r x all fits = grind (arith, All-head (IsColumn count) c cs all, cell_kept count cs place r x (All-tail (IsColumn count) c cs all) fits)

  values_kept : (count k : ℕ) (cs : List Column) (values : Cells) → All (IsColumn count) cs → AreKinds cs → fit_from k t places values ≡ true → All (IsColumn count) (with_values_from k cs rows places values)
  values_kept count k cs [] all kinds fits = all
  values_kept count k cs (x ∷ xs) all kinds fits =
      let place = slice_index places (k % length places) in
      let r = slice_index rows (k / length places) in
      let both = both_true _ _ fits in
      values_kept count (suc k) _ xs
      (cell_kept _ cs _ r x all (ap (λ kind. holds kind x) (kinds place) ∙ both.0))
      (λ q. kind_kept cs place r x q ∙ kinds q) both.1

  values_count : (k : ℕ) (cs : List Column) (values : Cells) → length (with_values_from k cs rows places values) ≡ length cs
  values_count k cs [] = refl
  values_count k cs (x ∷ xs) = values_count (suc k) _ xs ∙ length-set cs _ _

  filled_keeps : (values : Cells) → IsShaped t → IfOk (filled_table t rows places values) IsValid
  filled_keeps values s = search (where_keeps, limited_table_keeps, values_count, values_kept)

-- one more row
gap_column : (count : ℕ) (c : Column) → IsColumn count c → IsColumn (count + 1) (with_gap c)
gap_column count c h = record {
  filled = grind (arith, length-append);
  held = All-append (Held c.kind) c.cells (na_cell ∷ []) h.held (grind (arith, na_held));
}

row_shaped : (t : Table) (added : Name) → IsShaped t → IfSome added (λ l. length t.level_names ≡ 1) → IsShaped (with_row t added)
row_shaped t None s is = s
row_shaped t (Some l) s is = record {
  some = s.some;
  few = s.few;
  levels = All-append (Has (length t.level_names)) t.labels ((l ∷ []) ∷ []) s.levels
      (grind arith);
  headed = search length-map;
  columns = search (length-append, all_made, gap_column);
  headings = s.headings;
}

module _ (t : Table) (added : Name) where
  with_row_shape : (with_row t added).shape ≡ t.shape
  with_row_shape = grind arith

  with_row_headings : (with_row t added).headings ≡ t.headings
  with_row_headings = grind arith

-- one more column of a frame
abbrev pub IsNew : Table → Name → Type 0
IsNew t added = IfSome added (λ l. IsFrame t)

new_column_shaped : (t : Table) (added : Name) (value : SetValue) → IsShaped t → IsNew t added → IfOk (with_new_column t added value) IsShaped
new_column_shaped t None value s h = s
new_column_shaped t (Some l) value s is =
    any_then IsShaped (kind_of_value value) _
    (λ kind. placed_shaped t _ l (missing_column kind (length t.labels)) s is (search (spread_column, na_held)))

-- a row is added on one level, and a column to a frame
abbrev AddsTo : Table → Target → Type 0
AddsTo t target = IfSome target.rows.added (λ l. length t.level_names ≡ 1) × IsNew t target.columns.added

-- the cells that a setting reaches
target_keeps : (by : Accessor) (t : Table) (value : SetValue) (target : Target) → IsShaped t → AddsTo t target → IfOk (target_set by t value target) IsValid
target_keeps by t value target s adds =
    let grown_new : IsNew (with_row t target.rows.added) target.columns.added = grind (arith, with_row_shape, with_row_headings) in
    let grown = new_column_shaped (with_row t target.rows.added) target.columns.added value (row_shaped t _ s adds.0) grown_new in
    grind (arith, filled_keeps, then_keeps)

-- what a key adds

columns_new : (t : Table) (added : Name) (pick : Result Pick FaultValue) → IsFrame t → IfOk (or_added added (column_labels t) pick) (λ r. IsNew t r.added)
columns_new = grind arith

one_level : (n : ℕ) → nat_eq n 1 ≡ true → n ≡ 1
one_level n e = grind (arith, nat_tests)

rows_one : (by : Accessor) (t : Table) (k : GivenSub) → IfOk (rows_set by t k) (λ r. IfSome r.added (λ l. length t.level_names ≡ 1))
rows_one = search (rules, nat_eq, one_level)

both_added : (t : Table) (rows columns : Result Reached FaultValue) → IfOk rows (λ r. IfSome r.added (λ l. length t.level_names ≡ 1)) → IfOk columns (λ r. IsNew t r.added) → IfOk (target_of rows columns) (AddsTo t)
both_added = grind arith

access_set_keeps : (by : Accessor) (t : Table) (first : GivenSub) (second : Option GivenSub) (g : Given) → IsShaped t → IsValidGiven g → IfOk (access_set by t first second g) IsValid
access_set_keeps by t first second g s h =
    then_keeps IsValidValue IsValid (set_value g) _ (set_value_valid g h)
    (λ value v. then_keeps (AddsTo t) IsValid _ _ (grind (arith, both_added, rows_one, then_keeps, columns_new))
    (λ target adds. target_keeps by t value target s adds))

-- a setting
pub assign_result_keeps : (v : Entry) (way : Way) (first : GivenSub) (second : Option GivenSub) (g : Given) → IsValidObject v → IsValidGiven g → IfOk (assign_result v way first second g) IsValid
assign_result_keeps x way first second g v h = grind (arith, access_set_keeps, then_keeps, set_value_valid, column_set_keeps, shaped)

fewer : (a b m : ℕ) → a ≤ b → nat_le b m ≡ true → nat_le a m ≡ true
fewer a b m le e = grind (arith, nat_tests)

three : (a b c b' c' : Bool) → (b ≡ true → b' ≡ true) → (c ≡ true → c' ≡ true) → a && b && c ≡ true → a && b' && c' ≡ true
three = grind arith

narrower : (rows a b : ℕ) → a ≤ b → within_limits rows b ≡ true → within_limits rows a ≡ true
narrower = grind (arith, three, fewer, mul-le)

kept_valid : (t : Table) (places : List ℕ) → IsValid t → IsFrame t → IsValid (columns_frame t (places_besides t places))
kept_valid t places v is =
    let kept = places_besides t places in
    let s = shaped t v in
    let few : length kept ≤ length t.columns = grind (arith, length_filter, length-range_with_len) in
    let narrow : length (columns_frame t kept).columns ≡ length kept = search length-map in
    valid (columns_frame t kept) (kept_shaped t kept s is (some_below _ _)) (subst (λ n. within_limits (length t.labels) n ≡ true) (sym narrow) (narrower (length t.labels) _ _ few v.limited))

label_removal_keeps : (t : Table) (found : Result (List ℕ) FaultValue) → IsValid t → IsFrame t → IfOk (then_value found (λ places. Ok (columns_frame t (places_besides t places)))) IsValid
label_removal_keeps t found v is = any_then _ found _ (λ places. kept_valid t places v is)

-- a removal
pub removal_result_keeps : (v k : Entry) → IsValidObject v → IfOk (removal_result v k) IsValid
removal_result_keeps = grind (arith, label_removal_keeps)
