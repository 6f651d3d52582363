-- The nearest row of each row, with texts by number and with texts.
use Rattle.{frame_parts.proofs.Common.{if◌then◌else◌, ◌≡◌, ◌∙◌, ◌+◌, ◌<◌, ◌≤◌, ap, refl, sym, subst, arith, ℕ, ℤ, zero, suc, Bool, true, false, List, [], ◌∷◌, map, drop, length, slice_get, slice_index_or, replicate, All, Option, Some, None, Result, Ok, Err, IfOk, range_with_len, length-map, length-map-range_with_len, All-map, map-map as map_map, tabulate, Int64, Label, Text, AreDistinct, CellColumn, IsPlaceOf, IsSettled, NumberedTable, table_value, tuple_value, labels_value, column_at, table_column, get_or_from_slice_get, datum, same_tuple, tuple_by_number, tuples_settled, settled_by, MakesBy}, column_core.{proofs.cells.Common.{zip}, specs.Columns.{number_cell, column_with}}, factorize.{specs.{row_keys.Keys.{same_tuple as same_numbers}, Keys.{row_key, column_keys}}}, frame_select.proofs.AnswerLaws.{column_seen}, frame_labels.{specs.method.Groups.{row_keys}, proofs.{IndexingLaws.{tuples_seen}, KeyLaws.{numbered_keys, keys_are}}}, meaning_nearest.{specs.{asof.{AsOf.{UnsortedKey, key_of, nearest, asof_rows, asof_merged, unless_unsorted}, declared.Direction.{Direction, TheVariants.{Backward, Forward}}}, AsofMerge.{rows_on, rows_or_fault}}, proofs.asof.SeenLaws.{asof_merged_seen}}, asof_merge.specs.{Keys.{keys_of, ungrouped}, Answers.{MatchesBy}, declared.fault.AsofFault.{AsofFault, TheVariants.{Unsorted, NoMemory}}}, frame_asof.specs.Rows.{rows_in, rows_seen, met_result, AreRowsFor}}
use Rattle.meaning_nearest.specs.asof.pick.Rows.{rows_where}
use Rattle.std.specs.List.{last_or}

-- the keys of a column of whole numbers
number_read : (texts : List Text) (x : Option ℤ) → key_of (datum texts (number_cell x)) ≡ x
number_read texts None = refl
number_read texts (Some z) = refl

pub numbers_read : (texts : List Text) (count : ℕ) (row : ℕ → Option ℤ) → keys_of texts (tabulate count (λ k. number_cell (row k))) ≡ tabulate count row
numbers_read texts count row = map_map _ _ (range_with_len 0 count) ∙ (λ i. map (λ k. number_read texts (row k) i) (range_with_len 0 count))

-- no columns
no_labels : (start count : ℕ) → map (row_key []) (range_with_len start count) ≡ replicate count []
no_labels start zero = refl
no_labels start (suc count) = ap (λ more. [] ∷ more) (no_labels (start + 1) count)

cells_read : (texts : List Text) (c : CellColumn) (count : ℕ) (row : ℕ → Option ℤ) → column_with Int64 number_cell count row ≡ c → keys_of texts c.cells ≡ tabulate count row
cells_read texts c count row is = ap (λ c. keys_of texts c.cells) (sym is) ∙ numbers_read texts count row

pub cells_counted : (c : CellColumn) (count : ℕ) (row : ℕ → Option ℤ) → column_with Int64 number_cell count row ≡ c → length c.cells ≡ count
cells_counted c count row is = ap (λ c. length c.cells) (sym is) ∙ length-map-range_with_len (λ k. number_cell (row k)) 0 count

pub rows_alone : (texts : List Text) (c : CellColumn) (by : List CellColumn) (count : ℕ) (row : ℕ → Option ℤ) → by ≡ [] → column_with Int64 number_cell count row ≡ c
    → rows_in texts c by ≡ ungrouped (tabulate count row)
rows_alone texts c by count row none is =
    let size : length c.cells ≡ length (tabulate count row) = cells_counted c count row is ∙ sym (length-map-range_with_len row 0 count) in
    λ i. zip (cells_read texts c count row is i) ((ap (λ cs. column_keys cs (length c.cells)) none ∙ no_labels 0 (length c.cells) ∙ ap (λ n. replicate n []) size) i)

pub rows_beside : (texts : List Text) (c : CellColumn) (by read : List CellColumn) (n count : ℕ) (row : ℕ → Option ℤ) → read ≡ by → n ≡ count → column_with Int64 number_cell count row ≡ c
    → rows_in texts c by ≡ zip (tabulate count row) (column_keys read n)
rows_beside texts c by read n count row read_is n_is is =
    let size : length c.cells ≡ n = cells_counted c count row is ∙ sym n_is in
    λ i. zip (cells_read texts c count row is i) (column_keys (sym read_is i) (size i))

-- as many cells in the other columns
pub others_alike : (c : CellColumn) (by : List CellColumn) (count : ℕ) (row : ℕ → Option ℤ) → column_with Int64 number_cell count row ≡ c → All (λ other. length other.cells ≡ length c.cells) by → All (λ other. length other.cells ≡ count) by
others_alike c by count row is all = subst (λ n. All (λ other. length other.cells ≡ n) by) (cells_counted c count row is) all

pub keys_count : (columns : List CellColumn) (n count : ℕ) → n ≡ count → count ≡ length (column_keys columns n)
keys_count columns n count is = sym (length-map-range_with_len (row_key columns) 0 n ∙ is)

-- as many labels as columns
pub few_labels : (columns : List CellColumn) (count : ℕ) → length columns ≤ 4 → All (λ key. length key ≤ 4) (column_keys columns count)
few_labels columns count few = All-map (λ key. length key ≤ 4) (row_key columns) (range_with_len 0 count) (λ k d lt. short (slice_index_or (range_with_len 0 count) k d))
  where
    short : (row : ℕ) → length (row_key columns row) ≤ 4
    short row = grind (arith, length-map)

module _ {G H : Type 0} (f : G → H) where
  zip_seen : (keys : List (Option ℤ)) (groups : List G) → zip keys (map f groups) ≡ map (λ (row : Option ℤ × G). (row.0, f row.1)) (zip keys groups)
  zip_seen [] groups = refl
  zip_seen (key ∷ keys) [] = refl
  zip_seen (key ∷ keys) (group ∷ groups) = ap (λ rows. (key, f group) ∷ rows) (zip_seen keys groups)

zip_known : {G : Type 0} (P : G → Type 0) (keys : List (Option ℤ)) (groups : List G) → All P groups → All (λ (row : Option ℤ × G). P row.1) (zip keys groups)
zip_known P [] groups all k d lt = absurd (omega arith)
zip_known P (key ∷ keys) [] all k d lt = absurd (omega arith)
zip_known P (key ∷ keys) (group ∷ groups) all zero d lt = all 0 group (omega arith)
zip_known P (key ∷ keys) (group ∷ groups) all (suc k) d lt = zip_known P keys groups (λ i e below. all (suc i) e (omega arith)) k d (omega arith)

zip_count : {A B : Type 0} (xs : List A) (ys : List B) → length ys ≡ length xs → length (zip xs ys) ≡ length xs
zip_count [] ys same = refl
zip_count (x ∷ xs) [] same = absurd (omega (arith, same))
zip_count (x ∷ xs) (y ∷ ys) same = ap suc (zip_count xs ys (omega (arith, same)))

-- the places but the first
pub others_below : (count : ℕ) (places others : List ℕ) → others ≡ drop 1 places → All (λ place. place < count) places → All (λ place. place < count) others
others_below count [] others is all = rw is (λ k d lt. absurd (omega (arith, lt)))
others_below count (place ∷ places) others is all = rw is (λ k d lt. all (suc k) d (omega (arith, lt)))

pub others_counted : {X Y : Type 0} (f : X → Y) (g : ℕ → Y) (places others : List ℕ) (made read : List X) → others ≡ drop 1 places → map f made ≡ map g others → read ≡ made → 1 ≤ length places → length read + 1 ≡ length places
others_counted f g [] others made read is are same some = absurd (omega (arith, some))
others_counted f g (place ∷ places) others made read is are same some =
    let count : length read ≡ length places = ap length same ∙ sym (length-map made f) ∙ ap length are ∙ length-map others g ∙ ap length is in
    omega (arith, count)

pub same_count : (as' bs x y : ℕ) → as' + 1 ≡ x → bs + 1 ≡ y → y ≡ x → bs ≡ as'
same_count as' bs x y a b same = omega (arith, a, b, same)

pub few_others : (n x : ℕ) → n + 1 ≡ x → x ≤ 5 → n ≤ 4
few_others n x is few = omega (arith, is, few)

pub first_kind : (t : NumberedTable) (places : List ℕ) (place : ℕ) (c : CellColumn) → (column_at t.columns (slice_index_or places 0 0)).kind ≡ Int64 → slice_get places 0 ≡ Some place → column_at t.columns place ≡ table_column c → c.kind ≡ Int64
first_kind t places place c whole at is = sym (ap (λ c. c.kind) is) ∙ ap (λ place. (column_at t.columns place).kind) (sym (get_or_from_slice_get places 0 place 0 at)) ∙ whole

-- a side of a frame: the column of the keys, and the others
pub record IsSide (t : NumberedTable) (places : List ℕ) (c : CellColumn) (by : List CellColumn) : Type 0 where
  pub place : ℕ
  pub others : List ℕ
  pub first : slice_get places 0 ≡ Some place
  pub rest : others ≡ drop 1 places
  pub column : column_at t.columns place ≡ table_column c
  pub rows : length c.cells ≡ length t.labels
  pub columns : map table_column by ≡ map (column_at t.columns) others

pub side_of : (t : NumberedTable) (places others : List ℕ) (place : ℕ) (c : CellColumn) (made by : List CellColumn) → slice_get places 0 ≡ Some place → others ≡ drop 1 places → column_at t.columns place ≡ table_column c → length c.cells ≡ length t.labels
    → map table_column made ≡ map (column_at t.columns) others → by ≡ made → IsSide t places c by
side_of t places others place c made by first rest column rows columns same = record {
  place = place;
  others = others;
  first = first;
  rest = rest;
  column = column;
  rows = rows;
  columns = ap (map table_column) same ∙ columns;
}

module _ (texts : List Text) (t : NumberedTable) (places : List ℕ) (c : CellColumn) (by : List CellColumn) (side : IsSide t places c by) where
  rows_numbered : rows_in texts c by ≡ zip (keys_of texts c.cells) (numbered_keys t (drop 1 places))
  rows_numbered = λ i. zip (keys_of texts c.cells) ((keys_are t side.others by side.columns (length c.cells) side.rows ∙ ap (numbered_keys t) side.rest) i)

  keys_texts : (place : ℕ) → place ≡ side.place → map key_of (column_at (table_value texts t).columns place).cells ≡ keys_of texts c.cells
  keys_texts place is =
      (λ i. map key_of (column_seen texts t.columns place i).cells) ∙ map_map _ _ (column_at t.columns place).cells
      ∙ (λ i. keys_of texts (column_at t.columns (is i)).cells) ∙ (λ i. keys_of texts (side.column i).cells)

  pub side_seen : rows_on (table_value texts t) places ≡ map (λ (row : Option ℤ × List Label). (row.0, tuple_value texts row.1)) (rows_in texts c by)
  side_seen = by_places places refl side.first
    where
      by_places : (ps : List ℕ) → ps ≡ places → slice_get places 0 ≡ Some side.place → rows_on (table_value texts t) places ≡ map (λ (row : Option ℤ × List Label). (row.0, tuple_value texts row.1)) (rows_in texts c by)
      by_places [] is at = grind arith
      by_places (p ∷ ps) is at =
          let place : p ≡ side.place = grind arith in
          let rest : drop 1 places ≡ ps = ap (drop 1) (sym is) in
          ap (rows_on (table_value texts t)) (sym is)
          ∙ (λ i. zip (keys_texts p place i) (sym (tuples_seen texts t ps) i))
          ∙ zip_seen (tuple_value texts) (keys_of texts c.cells) (numbered_keys t ps)
          ∙ (λ i. map (λ (row : Option ℤ × List Label). (row.0, tuple_value texts row.1)) (zip (keys_of texts c.cells) (numbered_keys t (sym rest i))))
          ∙ ap (map (λ (row : Option ℤ × List Label). (row.0, tuple_value texts row.1))) (sym rows_numbered)

  pub side_settled : IsSettled table_value texts t → All (λ (row : Option ℤ × List Label). IsSettled tuple_value texts row.1) (rows_in texts c by)
  side_settled given =
      rw rows_numbered (zip_known (IsSettled tuple_value texts) (keys_of texts c.cells) (numbered_keys t (drop 1 places))
      (tuples_settled _ _ (settled_by table_value labels_value (λ v. row_keys v (drop 1 places)) _ t _ (λ ts. sym (tuples_seen _ t _)) given)))

  pub side_count : length (rows_in texts c by) ≡ length t.labels
  side_count = zip_count (keys_of texts c.cells) (column_keys by (length c.cells)) (length-map-range_with_len (row_key by) 0 (length c.cells) ∙ sym (length-map c.cells _)) ∙ length-map c.cells _ ∙ side.rows

-- the rows that are met are those of the other side
where_below : {X : Type 0} (p : X → Bool) (at count : ℕ) (xs : List X) → at + length xs ≡ count → All (λ row. row < count) (rows_where p at xs)
where_below p at count [] is = λ k d lt. absurd (omega (arith, lt))
where_below p at count (x ∷ xs) is = by (p x) (where_below p (at + 1) count xs (omega (arith, is)))
  where
    by : (b : Bool) → All (λ row. row < count) (rows_where p (at + 1) xs) → All (λ row. row < count) (if b then at ∷ rows_where p (at + 1) xs else rows_where p (at + 1) xs)
    by true below zero d lt = omega (arith, is)
    by true below (suc k) d lt = below k d (omega (arith, lt))
    by false below k d lt = below k d lt

last_below : (count : ℕ) (other : Option ℕ) (rows : List ℕ) → IsPlaceOf count other → All (λ row. row < count) rows → IsPlaceOf count (last_or other rows)
last_below count other [] is all = is
last_below count other (row ∷ rows) is all = last_below count (Some row) rows (all 0 row (omega arith)) (λ k d lt. all (suc k) d (omega (arith, lt)))

nearest_below : (direction : Direction) (count : ℕ) (rows : List ℕ) → All (λ row. row < count) rows → IsPlaceOf count (nearest direction rows)
nearest_below Backward count rows all = last_below count None rows tt all
nearest_below Forward count [] all = tt
nearest_below Forward count (row ∷ rows) all = all 0 row (omega arith)

rows_are : (a b : Option ℕ) (made rows : List (Option ℕ)) → unless_unsorted a b made ≡ Ok rows → rows ≡ made
rows_are None None made rows is = grind arith
rows_are None (Some b) made rows is = cc
rows_are (Some a) b made rows is = cc

module _ {G : Type 0} (same : G → G → Bool) (direction : Direction) (tolerance : Option ℕ) where
  met_below : (lefts rights : List (Option ℤ × G)) → All (IsPlaceOf (length rights)) (asof_rows same direction tolerance lefts rights)
  met_below lefts rights = All-map (IsPlaceOf (length rights)) _ lefts (λ k d lt. nearest_below direction (length rights) _ (where_below _ 0 (length rights) rights (omega arith)))

  pub rows_inside : (lefts rights : List (Option ℤ × G)) (left_count right_count : ℕ) → length lefts ≡ left_count → length rights ≡ right_count → (rows : List (Option ℕ)) → asof_merged same direction tolerance lefts rights ≡ Ok rows
      → (length rows ≡ left_count) × All (IsPlaceOf right_count) rows
  rows_inside lefts rights left_count right_count left_is right_is rows is =
      let are : rows ≡ asof_rows same direction tolerance lefts rights = rows_are _ _ _ rows is in
      (ap length are ∙ length-map lefts _ ∙ left_is, rw are (subst (λ n. All (IsPlaceOf n) (asof_rows same direction tolerance lefts rights)) right_is (met_below lefts rights)))

-- what is answered
pub met_answers : (texts : List Text) (found : Result (List (Option ℕ)) AsofFault) (meant : Result (List (Option ℕ)) UnsortedKey) → MatchesBy found meant → MakesBy rows_seen texts (met_result found) (rows_or_fault meant)
met_answers texts (Ok rows) meant is = ap rows_or_fault is
met_answers texts (Err (Unsorted side row)) meant is = (ap rows_or_fault is, λ more. refl)
met_answers texts (Err NoMemory) meant is = tt

module _ (texts : List Text) (distinct : AreDistinct texts) (l r : NumberedTable) (of_left : IsSettled table_value texts l) (of_right : IsSettled table_value texts r) (direction : Direction) (tolerance : Option ℕ)
    (lefts rights : List ℕ) (left right : CellColumn) (left_by right_by : List CellColumn) (left_side : IsSide l lefts left left_by) (right_side : IsSide r rights right right_by) where
  abbrev by_numbers : Result (List (Option ℕ)) UnsortedKey
  by_numbers = asof_merged same_numbers direction tolerance (rows_in texts left left_by) (rows_in texts right right_by)

  abbrev by_texts : Result (List (Option ℕ)) UnsortedKey
  by_texts = asof_merged same_tuple direction tolerance (rows_on (table_value texts l) lefts) (rows_on (table_value texts r) rights)

  pub met_seen : by_texts ≡ by_numbers
  met_seen =
      (λ i. asof_merged same_tuple direction tolerance (side_seen texts l lefts left left_by left_side i) (side_seen texts r rights right right_by right_side i))
      ∙ asof_merged_seen (IsSettled tuple_value texts) same_tuple same_numbers (tuple_value texts) (λ x y f g. tuple_by_number texts x y distinct f g) direction tolerance
      _ (side_settled texts r rights right right_by right_side of_right) _ (side_settled texts l lefts left left_by left_side of_left)

  pub rows_answered : (found : Result (List (Option ℕ)) AsofFault) → MatchesBy found by_numbers → MakesBy rows_seen texts (met_result found) (rows_or_fault by_texts)
  rows_answered found is = subst (λ meant. MakesBy rows_seen texts (met_result found) (rows_or_fault meant)) (sym met_seen) (met_answers texts found by_numbers is)

  pub rows_for : (found : Result (List (Option ℕ)) AsofFault) → MatchesBy found by_numbers → IfOk (met_result found) (AreRowsFor l r)
  rows_for (Ok rows) is =
      let inside = rows_inside same_numbers direction tolerance _ _ _ _ (side_count texts l lefts left left_by left_side) (side_count texts r rights right right_by right_side) rows is in
      record { count = inside.0; inside = inside.1 }
  rows_for (Err (Unsorted side row)) is = tt
  rows_for (Err NoMemory) is = tt
