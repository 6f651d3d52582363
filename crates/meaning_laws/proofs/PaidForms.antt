-- What a form leaves has no more rows than were there or are charged.
use Rattle.{
  meaning_script.{proofs.cells.Common.{◌≡◌, ◌∙◌, refl, sym, subst, ℕ, suc, ◌+◌, ◌*◌, ◌≤◌, List, [], ◌∷◌, length, map, arith, length-map, length-set, nat_tests, drop, Bool, true, false, if◌then◌else◌, nat_lt, slice_index_or, Option, Some, None, Result, Ok, Err, IfOk, IfSome, Shape, Series, Frame, CellValue, LabelValue, cell_label, Accessor, loc, FaultValue, wrong_kind, then_value, list_any}, specs.{charge.Charge.{answer_charge, select_charge, is_free_selection, touched_in, setting_charge, reached_count}, tables.{Table.{Table, cell_count, column_at}, Change.{with_values_from, with_values}, Value.{Entry, cell, table, Given, GivenSub, one, key_given}}, form.{Given.{is_frame}, Infix.{same_tuple}, Finish.{limited_table, limited, column_labels}, Select.{places_of_label, columns_frame, places_besides}}, pick.Keys.{one_key, Pick}, select.{Keys.{Reach, label_columns, columns_by, only_column, all_columns, may_stand_alone}, Select.{Way, plain, through, select_result, picked_result, shown_as, without_leading, as_series, column_rows, cut, way_reach}, Set.{or_last, SetValue, set_value, Reached, picked, Target, added_label, or_added, target_of, rows_set, columns_set, target_by, with_gap, with_row, with_new_column, lacks_columns, values_for, fit_from, filled_table, target_set, access_set, item_set, assign_result, removal_result}}, State.{rows_under, held_rows, entry_rows}}},
  std.proofs.Math.Nat.{mul-le-mul_left},
  meaning_laws.{specs.Validity.{IsValidObject}, proofs.{Words.{Below, Column}, ListLaws.{then_keeps, any_then, if_keeps, where_keeps}, TableLaws.{shaped}, ReachLaws.{IsReach, some_below, way_reach_is}, PartLaws.{IsPart, free_part}}},
}

-- a value that holds cells in at most so many rows
abbrev pub Within : ℕ → Entry → Type 0
Within most v = entry_rows v ≤ most

-- no more rows, and no column where there was none
pub under_within : {C D : Type 0} (cs : List C) (ds : List D) (m n : ℕ) → m ≤ n → (length ds ≡ 0 → length cs ≡ 0) → rows_under cs m ≤ rows_under ds n
under_within [] ds m n le none = omega arith
under_within (c ∷ cs) [] m n le none = absurd (omega (arith, none refl))
under_within (c ∷ cs) (d ∷ ds) m n le none = le

pub under_rows : {C : Type 0} (cs : List C) (m : ℕ) → rows_under cs m ≤ m
under_rows [] m = omega arith
under_rows (c ∷ cs) m = omega arith

-- rows times columns are no fewer
under_cells : {C : Type 0} (cs : List C) (m : ℕ) → rows_under cs m ≤ m * length cs
under_cells [] m = omega arith
under_cells (c ∷ cs) m =
    let wide : m * 1 ≤ m * length (c ∷ cs) = mul-le-mul_left m (omega arith) in
    omega arith

pub held_cells : (t : Table) → held_rows t ≤ cell_count t
held_cells t = under_cells t.columns (length t.labels)

pub answer_cells : (v : Entry) → entry_rows v ≤ answer_charge v
answer_cells (cell c) = omega arith
answer_cells (table t) = held_cells t

-- what costs its cells
pub costs_cells : (r : Result Entry FaultValue) (paid : ℕ) → IfOk r (λ v. entry_rows v ≤ paid + answer_charge v)
costs_cells (Ok v) paid = omega (arith, answer_cells v)
costs_cells (Err fault) paid = tt

-- what costs nothing
pub costs_nothing : (r : Result Entry FaultValue) (most : ℕ) → IfOk r (Within most) → IfOk r (λ v. entry_rows v ≤ most + 0)
costs_nothing (Ok v) most h = omega arith
costs_nothing (Err fault) most h = tt

-- what costs nothing, or its cells
pub costs_where : (b : Bool) (r : Result Entry FaultValue) (most : ℕ) → (b ≡ true → IfOk r (Within most)) → IfOk r (λ v. entry_rows v ≤ most + (if b then 0 else answer_charge v))
costs_where true r most h = costs_nothing r most (h refl)
costs_where false r most h = costs_cells r most

pub limited_within : (t : Table) (most : ℕ) → held_rows t ≤ most → IfOk (limited t) (Within most)
limited_within = grind arith

pub none_below : (places : List ℕ) → Below 0 places → length places ≡ 0
none_below [] below = refl
none_below (p ∷ ps) below = absurd (omega (arith, below 0 0 (omega arith)))

-- some columns of those that are there
pub none_chosen : (count : ℕ) (places : List ℕ) → Below count places → count ≡ 0 → length places ≡ 0
none_chosen count places below none = none_below places (subst (λ n. Below n places) none below)

-- ---- selections

module _ (t : Table) where
  cut_within : (rows places : List ℕ) → Below (length t.columns) places → length rows ≤ length t.labels → held_rows (cut t rows places) ≤ held_rows t
  cut_within rows places below few =
      under_within (cut t rows places).columns t.columns (length (cut t rows places).labels) (length t.labels)
      (omega (arith, length-map rows (λ row. slice_index_or t.labels row [])))
      (λ none. length-map (map (column_at t.columns) places) (column_rows rows) ∙ length-map places (column_at t.columns) ∙ none_chosen _ places below none)

  leading_within : (count most : ℕ) → held_rows t ≤ most → held_rows (without_leading count t) ≤ most
  leading_within count most h =
      let kept = under_within t.columns t.columns (length (map (drop count) t.labels)) (length t.labels) (omega (arith, length-map t.labels (drop count))) (λ none. none) in
      omega arith

  shown_within : (single : Bool) (most : ℕ) → held_rows t ≤ most → IfOk (shown_as false single t) (Within most)
  shown_within true most h = limited_within (as_series t) most h
  shown_within false most h = limited_within t most h

picked_within : (t : Table) (reach : Reach) → IsReach t reach → IsPart (length t.labels) reach.rows → IfOk (picked_result t reach) (Within (held_rows t))
picked_within t reach r part =
    let made = cut t reach.rows.rows reach.columns.rows in
    let few = cut_within t reach.rows.rows reach.columns.rows r.columns part.few in
    let left = leading_within made reach.rows.dropped (held_rows t) few in
    subst (λ single. IfOk (shown_as single reach.columns.single (without_leading reach.rows.dropped made)) (Within (held_rows t))) (sym part.several)
    (shown_within (without_leading reach.rows.dropped made) reach.columns.single (held_rows t) left)

both_hold : {A : Type 0} (P Q : A → Type 0) (r : Result A FaultValue) → IfOk r P → IfOk r Q → IfOk r (λ a. P a × Q a)
both_hold P Q = grind arith

pub select_within : (v : Entry) (way : Way) (first : GivenSub) (second : Option GivenSub) → IsValidObject v → IfOk (select_result v way first second) (λ w. entry_rows w ≤ entry_rows v + select_charge v way first w)
select_within (cell c) way first second h = tt
select_within (table t) way first second h =
    costs_where (is_free_selection t.shape way first) (select_result (table t) way first second) (held_rows t)
    (λ free. then_keeps (λ reach. IsReach t reach × IsPart (length t.labels) reach.rows) (Within (held_rows t)) (way_reach way t first second) (picked_result t)
    (both_hold (IsReach t) (λ reach. IsPart (length t.labels) reach.rows) (way_reach way t first second) (way_reach_is way t first second (shaped t h)) (free_part t way first second free))
    (λ reach both. picked_within t reach both.0 both.1))

-- ---- settings

module _ (t left : Table) (n : ℕ) where
  -- a setting that adds a row costs all cells, and another one its rows for each column
  touched_pays : (b : Bool) → 1 ≤ n → held_rows left ≤ held_rows t + (if b then cell_count left else length left.labels * n)
  touched_pays true some = omega (arith, held_cells left)
  touched_pays false some =
      let rows : length left.labels * 1 ≤ length left.labels * n = mul-le-mul_left (length left.labels) some in
      omega (arith, under_rows left.columns (length left.labels))

  -- where none is added the rows that were there stay
  kept_pays : (b : Bool) → nat_lt (length t.labels) (length left.labels) ≡ b → length left.columns ≡ length t.columns → held_rows left ≤ held_rows t + (if b then cell_count left else length left.labels * n)
  kept_pays true e same = omega (arith, held_cells left)
  kept_pays false e same =
      let few : length left.labels ≤ length t.labels = grind (arith, nat_tests) in
      let kept = under_within left.columns t.columns (length left.labels) (length t.labels) few (λ none. same ∙ none) in
      omega arith

-- so many columns are touched, or none is added
abbrev Touches : ℕ → Target → Type 0
Touches n target = IfSome target.columns.added (λ l. 1 ≤ n)

-- as many columns as there were
abbrev IsAsWide : Table → Table → Type 0
IsAsWide t left = length left.columns ≡ length t.columns

wide_on : (t grown : Table) (r : Result Table FaultValue) → IsAsWide t grown → IfOk r (IsAsWide grown) → IfOk r (IsAsWide t)
wide_on t grown (Ok left) same h = h ∙ same
wide_on t grown (Err fault) same h = tt

values_count : (rows places : List ℕ) (k : ℕ) (cs : List Column) (values : List CellValue) → length (with_values_from k cs rows places values) ≡ length cs
values_count rows places k cs [] = refl
values_count rows places k cs (x ∷ xs) = values_count rows places (suc k) _ xs ∙ length-set cs _ _

limited_kept : (t left : Table) → IsAsWide t left → IfOk (limited_table left) (IsAsWide t)
limited_kept = grind arith

filled_kept : (t : Table) (rows places : List ℕ) (values : List CellValue) → IfOk (filled_table t rows places values) (IsAsWide t)
filled_kept t rows places values =
    where_keeps (IsAsWide t) (fit_from 0 t places values) (limited_table (with_values t rows places values)) wrong_kind
    (λ fit. limited_kept t (with_values t rows places values) (values_count rows places 0 t.columns values))

row_kept : (t : Table) (added : Option LabelValue) → IsAsWide t (with_row t added)
row_kept t None = refl
row_kept t (Some l) = length-map t.columns with_gap

grown_kept : (t : Table) (row column : Option LabelValue) (value : SetValue) → column ≡ None → IfOk (with_new_column (with_row t row) column value) (IsAsWide t)
grown_kept t row None value e = row_kept t row
grown_kept t row (Some l) value e = cc

-- where no column is added
target_kept : (by : Accessor) (t : Table) (value : SetValue) (target : Target) → target.columns.added ≡ None → IfOk (target_set by t value target) (IsAsWide t)
target_kept by t value target none =
    if_keeps (IsAsWide t) (lacks_columns t target) _ _ (λ lacks. tt)
    (λ has. any_then (IsAsWide t) (values_for by t target value) _
    (λ values. then_keeps (IsAsWide t) (IsAsWide t) _ _ (grown_kept t target.rows.added target.columns.added value none)
    (λ grown same. wide_on t grown _ same (filled_kept grown target.rows.places target.columns.places values))))

-- a column that is added is touched
abbrev by_key : Bool → LabelValue → ℕ → Result Pick FaultValue → Result Reached FaultValue
by_key there l count pick = if there then then_value pick (λ p. Ok (picked p)) else Ok record { places = count ∷ []; added = Some l }

key_touched : (there : Bool) (l : LabelValue) (count : ℕ) (pick : Result Pick FaultValue) → IfOk (by_key there l count pick) (λ r. IfSome r.added (λ new. 1 ≤ reached_count (by_key there l count pick)))
key_touched true l count (Ok p) = tt
key_touched true l count (Err fault) = tt
key_touched false l count pick = omega arith

added_touched : (o : Option LabelValue) (tuples : List (List LabelValue)) (pick : Result Pick FaultValue) → IfOk (or_added o tuples pick) (λ r. IfSome r.added (λ new. 1 ≤ reached_count (or_added o tuples pick)))
added_touched None tuples (Ok p) = tt
added_touched None tuples (Err fault) = tt
added_touched (Some l) tuples pick = key_touched (list_any (same_tuple (l ∷ [])) tuples) l (length tuples) pick

target_touched : (n : ℕ) (rows columns : Result Reached FaultValue) → IfOk columns (λ r. IfSome r.added (λ l. 1 ≤ n)) → IfOk (target_of rows columns) (Touches n)
target_touched n rows columns h = any_then (Touches n) rows _ (λ r. then_keeps (λ c. IfSome c.added (λ l. 1 ≤ n)) (Touches n) columns _ h (λ c k. k))

by_touched : (s : Shape) (by : Accessor) (t : Table) (first : GivenSub) (second : Option GivenSub) → IfOk (target_by s by t first second) (Touches (touched_in s (through by) t first second))
by_touched Series by t first None = target_touched 1 (rows_set by t first) (Ok (picked only_column)) tt
by_touched Series by t first (Some other) = target_touched 1 _ (Ok (picked only_column)) tt
by_touched Frame by t first None =
    where_keeps (Touches (length t.columns)) (may_stand_alone by first) _ _ (λ alone. target_touched (length t.columns) (rows_set by t first) (Ok (picked (all_columns t))) tt)
by_touched Frame by t first (Some other) =
    target_touched (reached_count (columns_set by t other)) (rows_set by t first) (columns_set by t other) (added_touched (added_label by other) (column_labels t) (columns_by by t other))

module _ (t : Table) (way : Way) (first : GivenSub) (second : Option GivenSub) where
  abbrev Pays : Table → Type 0
  Pays left = held_rows left ≤ held_rows t + setting_charge (table t) way first second left

  some_pay : (r : Result Table FaultValue) → 1 ≤ touched_in t.shape way t first second → IfOk r Pays
  some_pay (Ok left) some = touched_pays t left (touched_in t.shape way t first second) (nat_lt (length t.labels) (length left.labels)) some
  some_pay (Err fault) some = tt

  wide_pay : (r : Result Table FaultValue) → IfOk r (IsAsWide t) → IfOk r Pays
  wide_pay (Ok left) same = kept_pays t left (touched_in t.shape way t first second) (nat_lt (length t.labels) (length left.labels)) refl same
  wide_pay (Err fault) same = tt

  target_pays : (by : Accessor) (value : SetValue) (target : Target) (o : Option LabelValue) → target.columns.added ≡ o → IfSome o (λ l. 1 ≤ touched_in t.shape way t first second) → IfOk (target_set by t value target) Pays
  target_pays by value target None e touches = wide_pay (target_set by t value target) (target_kept by t value target e)
  target_pays by value target (Some l) e some = some_pay (target_set by t value target) some

  access_pays : (by : Accessor) (g : Given) → touched_in t.shape (through by) t first second ≡ touched_in t.shape way t first second → IfOk (access_set by t first second g) Pays
  access_pays by g same =
      any_then Pays (set_value g) _
      (λ value. then_keeps (Touches (touched_in t.shape way t first second)) Pays (target_by t.shape by t first second) (target_set by t value)
      (subst (λ n. IfOk (target_by t.shape by t first second) (Touches n)) same (by_touched t.shape by t first second))
      (λ target touches. target_pays by value target target.columns.added refl touches))

-- in brackets a column is touched
series_touched : (s : Shape) (t : Table) (first : GivenSub) (second : Option GivenSub) → s ≡ Series → touched_in s (through loc) t first second ≡ touched_in s plain t first second
series_touched Series t first second e = refl
series_touched Frame t first second e = cc

put_somewhere : (count : ℕ) (places : List ℕ) → 1 ≤ length (or_last count places)
put_somewhere count [] = omega arith
put_somewhere count (place ∷ places) = omega arith

label_touched : (s : Shape) (t : Table) (c : CellValue) → 1 ≤ touched_in s plain t (key_given (one (cell c))) None
label_touched Series t c = omega arith
label_touched Frame t c = put_somewhere (length t.headings) (places_of_label t.headings (cell_label c))

item_pays : (s : Shape) (t : Table) (first : GivenSub) (second : Option GivenSub) (g : Given) → t.shape ≡ s → IfOk (item_set s t first second g) (Pays t plain first second)
item_pays Series t first second g is = access_pays t plain first second loc g (series_touched t.shape t first second is)
item_pays Frame t (key_given (one (cell c))) None g is = some_pay t plain (key_given (one (cell c))) None _ (label_touched t.shape t c)
item_pays Frame t first None g is = tt
item_pays Frame t first (Some k) g is = tt

pub assign_within : (v : Entry) (way : Way) (first : GivenSub) (second : Option GivenSub) (g : Given) → IfOk (assign_result v way first second g) (λ left. held_rows left ≤ entry_rows v + setting_charge v way first second left)
assign_within (cell c) way first second g = tt
assign_within (table t) plain first second g = item_pays t.shape t first second g refl
assign_within (table t) (through by) first second g = access_pays t (through by) first second by g refl

-- ---- removals

-- some of the columns
pub chosen_within : (t : Table) (places : List ℕ) → Below (length t.columns) places → held_rows (columns_frame t places) ≤ held_rows t
chosen_within t places below =
    under_within (columns_frame t places).columns t.columns (length t.labels) (length t.labels) (omega arith)
    (λ none. length-map places (column_at t.columns) ∙ none_chosen _ places below none)

pub removal_within : (v k : Entry) → IfOk (removal_result v k) (λ left. held_rows left ≤ entry_rows v)
removal_within (table t) (cell c) =
    let fewer = λ (left : Table). held_rows left ≤ held_rows t in
    let left : List ℕ → Result Table FaultValue = λ places. Ok (columns_frame t (places_besides t places)) in
    let found = label_columns t (one_key (cell_label c ∷ [])) in
    where_keeps fewer (is_frame t.shape) (then_value found left) wrong_kind
    (λ is. any_then fewer found left (λ places. chosen_within t (places_besides t places) (some_below _ _)))
removal_within v k = tt
