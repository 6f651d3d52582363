-- What the text of records reads as.
use Rattle.{meaning_json.{proofs.cells.Common.{◌≡◌, ℕ, zero, suc, ◌<◌, ◌≤◌, Bool, true, false, ◌||◌, list_any, same_text, cond, ◌&&◌, List, [], ◌∷◌, ◌++◌, length, map, get_or, refl, ap, sym, ◌∙◌, arith, append_assoc, append-nil, Some, Ok, Err, option_map, option_and_then, unwrap_or, subst, All, AllPairs, list_all, length-map, get_or-map, length-map-range_with_len, fill_by_all, range_with_len, map-map, same_lists, slice_cmp, nat_cmp, Text, CellValue, LabelValue, text, na_cell}, specs.{cells.Cell.{cell_label}, tables.Table.{Table, RowOf, no_column, column_at, row_of, rows_of}, tables.Valid.{within_limits}, form.Finish.{default_labels}, declared.Orient.TheVariants.{Records}, JsonWrite.{value_text, column_labels, record_members, record_json, records_json}, JsonRead.{values_in, members_in, cell_in, is_cell, cell_found, is_record, keys_in, key_in_place, with_key, with_keys, keys_after, keys_of, cells_under, records_table, read_records, table_in, table_of, tuples}}}, json.{specs.{Tree.{depth, members_depth}}}, serde_json.specs.{Data.{Data, put}, Read.{of_json, of_members}, Find.{get, get_member}}, std.{proofs.{Common.{ap₂}, lemmas.{Cmp.{nat_list_cmp_total}, Map.Text.{is_eq-slice_cmp}, Slice.Eq.{bytes_eq-Decides}}}, specs.{Ordering.{match_ordering, ordering_reverse, is_eq, is_lt}, declared.cmp.Ordering.{Ordering, TheVariants.{Less, Equal, Greater}}, Str.{IsUtf8}}}, json_frames.{specs.ReadBack.{IsLabel, IsCell, IsPlain, AreAscending, read_with, RecordsReadBack}, proofs.{TextLaws.{IsGood, HasGood, text_utf8, text_read, items_good, items_shallow, items_read, values_back, cell_data, label_good, label_shallow, label_read, label_is_cell, cell_back}, SplitLaws.{cells_of, table_made, text_means, wide, cell_plain, all_rows, rows_plain}, TableLaws.{cell_is, cells_count}}}}
use Rattle.serde_json.specs.Data as dat
use Rattle.serde_json.specs.View as view
use Rattle.meaning_json.specs.JsonRead as refusal

-- texts that rise, and texts that are above others
abbrev AreAbove : Text → List Text → Type 0
AreAbove k ls = All (λ l. slice_cmp nat_cmp k l ≡ Greater) ls

abbrev Rising : List Text → Type 0
Rising [] = Unit {0}
Rising (k ∷ ks) = All (λ l. slice_cmp nat_cmp l k ≡ Greater) ks × Rising ks

above : (a b : Text) → slice_cmp nat_cmp a b ≡ Less → slice_cmp nat_cmp b a ≡ Greater
above a b h = nat_list_cmp_total.antisymm b a ∙ ap ordering_reverse h

rises : (ks : List Text) → AllPairs (λ a b. slice_cmp nat_cmp a b ≡ Less) ks → Rising ks
rises [] h = tt
rises (k ∷ ks) h = ((λ i d lt. above k (get_or ks i d) (h 0 (suc i) d (omega arith) (omega arith))), rises ks (λ i j d lt below. h (suc i) (suc j) d (omega arith) (omega arith)))

same_order : (o : Ordering) → o ≡ ordering_reverse o → o ≡ Equal
same_order Less e = cc
same_order Equal e = refl
same_order Greater e = cc

itself : (k : Text) → slice_cmp nat_cmp k k ≡ Equal
itself k = same_order _ (nat_list_cmp_total.antisymm k k)

-- the keys so far, and one that is above them
front_above : (front : List Text) (k l : Text) → AreAbove l front → slice_cmp nat_cmp l k ≡ Greater → AreAbove l (front ++ k ∷ [])
front_above [] k l h e zero d lt = e
front_above [] k l h e (suc i) d lt = absurd (omega arith)
front_above (f ∷ front) k l h e zero d lt = h 0 d (omega arith)
front_above (f ∷ front) k l h e (suc i) d lt = front_above front k l (λ j c within. h (suc j) c (omega arith)) e i d (omega arith)

-- a new key goes last, and a key that is there changes nothing
other_key : (k l : Text) → slice_cmp nat_cmp k l ≡ Greater → same_text k l ≡ false
other_key k l h = sym (is_eq-slice_cmp k l) ∙ ap is_eq h

none_there : (front : List Text) (k : Text) → AreAbove k front → list_any (same_text k) front ≡ false
none_there [] k h = refl
none_there (f ∷ front) k h = ap₂ (λ x y. x || y) (other_key k f (h 0 f (omega arith))) (none_there front k (λ j d lt. h (suc j) d (omega arith)))

placed_last : (front : List Text) (k : Text) → AreAbove k front → key_in_place k front ≡ front ++ k ∷ []
placed_last [] k h = refl
placed_last (f ∷ front) k h =
    ap (λ o. cond (is_lt o) (k ∷ f ∷ front) (f ∷ key_in_place k front)) (h 0 f (omega arith)) ∙ ap (λ l. f ∷ l) (placed_last front k (λ j d lt. h (suc j) d (omega arith)))

key_last : (front : List Text) (k : Text) → AreAbove k front → with_key front k ≡ front ++ k ∷ []
key_last front k h = ap (λ b. cond b front (key_in_place k front)) (none_there front k h) ∙ placed_last front k h

or_true : (b c : Bool) → c ≡ true → (b || c) ≡ true
or_true true c e = refl
or_true false c e = e

has_itself : (front : List Text) (k : Text) (back : List Text) → list_any (same_text k) (front ++ k ∷ back) ≡ true
has_itself [] k back = ap (λ b. b || list_any (same_text k) back) ((bytes_eq-Decides k k).1 refl)
has_itself (f ∷ front) k back = or_true (same_text k f) _ (has_itself front k back)

key_there : (front : List Text) (k : Text) (back : List Text) → with_key (front ++ k ∷ back) k ≡ front ++ k ∷ back
key_there front k back = ap (λ b. cond b (front ++ k ∷ back) (key_in_place k (front ++ k ∷ back))) (has_itself front k back)

keys_first : (front ks : List Text) → Rising ks → All (λ k. AreAbove k front) ks → with_keys front ks ≡ front ++ ks
keys_first front [] r h = sym (append-nil front)
keys_first front (k ∷ ks) r h =
    ap (λ l. with_keys l ks) (key_last front k (h 0 k (omega arith)))
    ∙ keys_first (front ++ k ∷ []) ks r.1 (λ i d lt. front_above front k (get_or ks i d) (h (suc i) d (omega arith)) (r.0 i d lt))
    ∙ append_assoc front (k ∷ []) ks

keys_again : (front ks : List Text) → Rising ks → All (λ k. AreAbove k front) ks → with_keys (front ++ ks) ks ≡ front ++ ks
keys_again front [] r h = refl
keys_again front (k ∷ ks) r h =
    ap (λ l. with_keys l ks) (key_there front k ks ∙ sym (append_assoc front (k ∷ []) ks))
    ∙ keys_again (front ++ k ∷ []) ks r.1 (λ i d lt. front_above front k (get_or ks i d) (h (suc i) d (omega arith)) (r.0 i d lt))
    ∙ append_assoc front (k ∷ []) ks

none_before : (ks : List Text) → All (λ k. AreAbove k []) ks
none_before ks i d lt j e within = absurd (omega arith)

-- The members of a record

abbrev named : List Text → List CellValue → List (Text × Data)
named (k ∷ ks) (c ∷ cs) = (k, cell_data c) ∷ named ks cs
named ks cs = []

abbrev data_members : List (Text × Data) → dat.Members
data_members [] = dat.no_members
data_members (m ∷ ms) = dat.member m.0 m.1 (data_members ms)

members_back : (ms : List (Text × Data)) → members_in (data_members ms) ≡ ms
members_back [] = refl
members_back (m ∷ ms) = ap (λ l. m ∷ l) (members_back ms)

abbrev key_of : Text × Data → Text
key_of m = m.0

names_back : (ks : List Text) (cs : List CellValue) → length cs ≡ length ks → map key_of (named ks cs) ≡ ks
names_back [] [] e = refl
names_back [] (c ∷ cs) e = absurd (omega arith)
names_back (k ∷ ks) [] e = absurd (omega arith)
names_back (k ∷ ks) (c ∷ cs) e = ap (λ l. k ∷ l) (names_back ks cs (omega arith))

put_last : (k : Text) (d : Data) (before : List (Text × Data)) → AreAbove k (map key_of before) → put k d (data_members before) ≡ data_members (before ++ (k, d) ∷ [])
put_last k d [] h = refl
put_last k d (m ∷ before) h =
    ap (λ o. match_ordering o (dat.member k d (dat.member m.0 m.1 (data_members before))) (dat.member m.0 d (data_members before)) (dat.member m.0 m.1 (put k d (data_members before)))) (h 0 m.0 (omega arith))
    ∙ ap (dat.member m.0 m.1) (put_last k d before (λ j e lt. h (suc j) e (omega arith)))

key_pushed : (before : List (Text × Data)) (k : Text) (d : Data) → map key_of (before ++ (k, d) ∷ []) ≡ map key_of before ++ k ∷ []
key_pushed [] k d = refl
key_pushed (m ∷ before) k d = ap (λ l. m.0 ∷ l) (key_pushed before k d)

members_read : (ks : List Text) (cs : List CellValue) (before : List (Text × Data)) → Rising ks → All (λ k. AreAbove k (map key_of before)) ks → All IsCell cs
    → of_members (record_members (map text ks) cs) (data_members before) ≡ Some (data_members (before ++ named ks cs))
members_read [] cs before r h cells = ap (λ l. Some (data_members l)) (sym (append-nil before))
members_read (k ∷ ks) [] before r h cells = ap (λ l. Some (data_members l)) (sym (append-nil before))
members_read (k ∷ ks) (c ∷ cs) before r h cells =
    ap (option_and_then (λ d. of_members (record_members (map text ks) cs) (put k d (data_members before)))) (label_read _ (cells 0 c (omega arith)))
    ∙ ap (of_members (record_members (map text ks) cs)) (put_last k (cell_data c) before (h 0 k (omega arith)))
    ∙ members_read ks cs (before ++ (k, cell_data c) ∷ []) r.1
    (λ i d lt. subst (AreAbove (get_or ks i d)) (sym (key_pushed before k (cell_data c))) (front_above (map key_of before) k (get_or ks i d) (h (suc i) d (omega arith)) (r.0 i d lt)))
    (λ i d lt. cells (suc i) d (omega arith))
    ∙ ap (λ l. Some (data_members l)) (append_assoc before ((k, cell_data c) ∷ []) (named ks cs))

members_are_cells : (ks : List Text) (cs : List CellValue) → All IsCell cs → list_all (λ m. is_cell m.1) (named ks cs) ≡ true
members_are_cells [] cs h = refl
members_are_cells (k ∷ ks) [] h = refl
members_are_cells (k ∷ ks) (c ∷ cs) h = ap₂ (λ x y. x && y) (label_is_cell _ (h 0 c (omega arith))) (members_are_cells ks cs (λ i d lt. h (suc i) d (omega arith)))

-- the member at a place
member_at : (ks : List Text) (cs : List CellValue) (p : ℕ) → Rising ks → p < length ks → p < length cs → get_member (get_or ks p []) (data_members (named ks cs)) ≡ Some (cell_data (get_or cs p na_cell))
member_at [] cs p r h i = absurd (omega arith)
member_at (k ∷ ks) [] p r h i = absurd (omega arith)
member_at (k ∷ ks) (c ∷ cs) zero r h i =
    let rest = get_member k (data_members (named ks cs)) in
    ap (λ o. match_ordering o rest (Some (cell_data c)) rest) (itself k)
member_at (k ∷ ks) (c ∷ cs) (suc p) r h i =
    let rest = get_member (get_or ks p []) (data_members (named ks cs)) in
    ap (λ o. match_ordering o rest (Some (cell_data c)) rest) (r.0 p [] (omega arith)) ∙ member_at ks cs p r.1 (omega arith) (omega arith)

-- Records with these keys

abbrev record_data : List Text → RowOf LabelValue CellValue → Data
record_data ks r = dat.object (data_members (named ks r.cells))

record_keys : (ks : List Text) (r : RowOf LabelValue CellValue) → length r.cells ≡ length ks → keys_in (record_data ks r) ≡ ks
record_keys ks r e = ap (map key_of) (members_back (named ks r.cells)) ∙ names_back ks r.cells e

keys_stay : (ks : List Text) (rs : List (RowOf LabelValue CellValue)) → Rising ks → All (λ (r : RowOf LabelValue CellValue). length r.cells ≡ length ks) rs → keys_after ks (map (record_data ks) rs) ≡ ks
keys_stay ks [] rising h = refl
keys_stay ks (r ∷ rs) rising h =
    ap (λ l. keys_after (with_keys ks l) (map (record_data ks) rs)) (record_keys ks r (h 0 r (omega arith)))
    ∙ ap (λ l. keys_after l (map (record_data ks) rs)) (keys_again [] ks rising (none_before ks))
    ∙ keys_stay ks rs rising (λ i d lt. h (suc i) d (omega arith))

all_keys : (ks : List Text) (rs : List (RowOf LabelValue CellValue)) → 1 ≤ length rs → Rising ks → All (λ (r : RowOf LabelValue CellValue). length r.cells ≡ length ks) rs → keys_of (map (record_data ks) rs) ≡ ks
all_keys ks [] some rising h = absurd (omega arith)
all_keys ks (r ∷ rs) some rising h =
    ap (λ l. keys_after (with_keys [] l) (map (record_data ks) rs)) (record_keys ks r (h 0 r (omega arith)))
    ∙ ap (λ l. keys_after l (map (record_data ks) rs)) (keys_first [] ks rising (none_before ks))
    ∙ keys_stay ks rs rising (λ i d lt. h (suc i) d (omega arith))

are_records : (ks : List Text) (rs : List (RowOf LabelValue CellValue)) → All (λ (r : RowOf LabelValue CellValue). All IsCell r.cells) rs → list_all is_record (map (record_data ks) rs) ≡ true
are_records ks [] h = refl
are_records ks (r ∷ rs) h =
    ap₂ (λ x y. x && y) (ap (list_all (λ m. is_cell m.1)) (members_back (named ks r.cells)) ∙ members_are_cells ks r.cells (h 0 r (omega arith))) (are_records ks rs (λ i d lt. h (suc i) d (omega arith)))

members_good : (ks : List Text) (cs : List CellValue) → All IsUtf8 ks → All IsCell cs → HasGood (record_members (map text ks) cs)
members_good [] cs u h = tt
members_good (k ∷ ks) [] u h = tt
members_good (k ∷ ks) (c ∷ cs) u h = (u 0 k (omega arith), (label_good _ (h 0 c (omega arith)), members_good ks cs (λ i d lt. u (suc i) d (omega arith)) (λ i d lt. h (suc i) d (omega arith))))

members_shallow : (ls : List LabelValue) (cs : List CellValue) → members_depth (record_members ls cs) ≤ 0
members_shallow [] cs = omega arith
members_shallow (l ∷ ls) [] = omega arith
members_shallow (l ∷ ls) (c ∷ cs) = omega (arith, label_shallow (cell_label c), members_shallow ls cs)

-- a plain frame with these keys
module _ (t : Table) (plain : IsPlain t) (some : 1 ≤ length t.labels) (ks : List Text) (labels : column_labels t ≡ map text ks) (rising : Rising ks) where
  rs : List (RowOf LabelValue CellValue)
  rs = rows_of na_cell t

  count : length ks ≡ length t.columns
  count = sym (length-map ks text) ∙ sym (ap length labels) ∙ sym (wide t plain)

  row_counts : All (λ (r : RowOf LabelValue CellValue). length r.cells ≡ length ks) (rows_of na_cell t)
  row_counts = all_rows t plain (λ (r : RowOf LabelValue CellValue). length r.cells ≡ length ks) (λ row h. cells_count t row 0 ∙ sym count)

  keys_utf8 : All IsUtf8 ks
  keys_utf8 = λ k d lt.
      let label : get_or (column_labels t) k (text d) ≡ text (get_or ks k d) = ap (λ l. get_or l k (text d)) labels ∙ get_or-map text ks k d (text d) lt in
      subst IsLabel label (plain.headings k (text d) (omega (arith, ap length labels, length-map ks text)))

  rows_read : of_json (records_json t) ≡ Some (dat.array (view.items_of (map (record_data ks) (rows_of na_cell t))))
  rows_read =
      ap (option_map dat.array) (items_read (record_json (column_labels t)) (record_data ks) (rows_of na_cell t)
      (λ k d lt. ap (λ ls. of_json (record_json ls (get_or (rows_of na_cell t) k d))) labels ∙ ap (option_map dat.object) (members_read ks (get_or (rows_of na_cell t) k d).cells [] rising (none_before ks) (rows_plain t plain k d lt))))

  good : IsGood (records_json t)
  good =
      items_good (record_json (column_labels t)) (rows_of na_cell t)
      (λ k d lt. subst (λ ls. HasGood (record_members ls (get_or (rows_of na_cell t) k d).cells)) (sym labels) (members_good ks (get_or (rows_of na_cell t) k d).cells keys_utf8 (rows_plain t plain k d lt)))

  shallow : depth (records_json t) ≤ 127
  shallow = let a = items_shallow (record_json (column_labels t)) 1 (λ r. omega (arith, members_shallow (column_labels t) r.cells)) (rows_of na_cell t) in omega (arith, a)

  keys_are : keys_of (map (record_data ks) (rows_of na_cell t)) ≡ ks
  keys_are = all_keys ks (rows_of na_cell t) (omega (arith, length-map-range_with_len (row_of na_cell t) 0 (length t.labels))) rising row_counts

  column_under : (k : ℕ) → k < length t.columns → cells_under (map (record_data ks) (rows_of na_cell t)) (get_or ks k []) ≡ (column_at t.columns k).cells
  column_under k h =
      let n : ℕ = length t.labels in
      let cells : List CellValue = (column_at t.columns k).cells in
      let found : (row : ℕ) → row < n → get_or cells row na_cell ≡ cell_found (get (get_or ks k []) (record_data ks (row_of na_cell t row))) =
      λ row lt. sym (
      ap cell_found (member_at ks (row_of na_cell t row).cells k rising (omega (arith, count)) (omega (arith, cells_count t row k)))
      ∙ ap (λ o. unwrap_or o na_cell) (cell_back _ (subst IsCell (sym (cell_is t row k h)) (cell_plain t plain row k lt h)))
      ∙ cell_is t row k h
      ) in
      map-map _ _ (rows_of na_cell t) ∙ map-map _ _ (range_with_len 0 n)
      ∙ sym (fill_by_all (λ row. cell_found (get (get_or ks k []) (record_data ks (row_of na_cell t row)))) cells n na_cell (plain.valid.whole.filled k no_column h) found)

  columns_under : map (cells_under (map (record_data ks) (rows_of na_cell t))) ks ≡ map cells_of t.columns
  columns_under =
      same_lists _ _ (length-map ks _ ∙ count ∙ sym (length-map t.columns cells_of))
      (λ k d lt. get_or-map (cells_under (map (record_data ks) (rows_of na_cell t))) ks k [] d (omega (arith, length-map ks (cells_under (map (record_data ks) (rows_of na_cell t)))))
      ∙ column_under k (omega (arith, count, length-map ks (cells_under (map (record_data ks) (rows_of na_cell t)))))
      ∙ sym (get_or-map cells_of t.columns k no_column d (omega (arith, count, length-map ks (cells_under (map (record_data ks) (rows_of na_cell t)))))))

  records_back : records_table (map (record_data ks) (rows_of na_cell t)) ≡ Ok (read_with (default_labels (length t.labels)) t)
  records_back =
      let rows : List Data = map (record_data ks) (rows_of na_cell t) in
      let n : length rows ≡ length t.labels = length-map (rows_of na_cell t) (record_data ks) ∙ length-map-range_with_len (row_of na_cell t) 0 (length t.labels) in
      ap (λ l. table_of (tuples (map text l)) (default_labels (length rows)) (map (cells_under rows) l)) keys_are
      ∙ ap (λ l. table_of (tuples l) (default_labels (length rows)) (map (cells_under rows) ks)) (sym labels)
      ∙ ap (λ m. table_of (tuples (column_labels t)) (default_labels m) (map (cells_under rows) ks)) n
      ∙ ap (table_of (tuples (column_labels t)) (default_labels (length t.labels))) columns_under
      ∙ table_made (tuples (column_labels t)) (default_labels (length t.labels)) t.columns plain.valid.held plain.kinds
      (ap₂ within_limits (length-map-range_with_len _ 0 (length t.labels)) (length-map (column_labels t) _ ∙ sym (wide t plain)) ∙ plain.valid.limited)

  pub read_back : RecordsReadBack t
  read_back =
      text_means Records (value_text (records_json t)) _ (text_utf8 (records_json t) good) (text_read (records_json t) good shallow ∙ rows_read)
      ∙ ap (λ l. read_records (Some l)) (values_back (map (record_data ks) (rows_of na_cell t)))
      ∙ ap (λ b. cond b (records_table (map (record_data ks) (rows_of na_cell t))) (Err refusal.not_table)) (are_records ks (rows_of na_cell t) (rows_plain t plain))
      ∙ records_back

pub records_read : (t : Table) → IsPlain t → 1 ≤ length t.labels → AreAscending (column_labels t) → RecordsReadBack t
records_read t plain some ascending = read_back t plain some ascending.0 ascending.1 (rises ascending.0 ascending.2)
