-- What the text of labels and rows reads as.
use Rattle.{meaning_json.{proofs.cells.Common.{◌≡◌, ◌≢◌, ℕ, ◌<◌, ◌≤◌, Bool, true, false, not, cond, ◌&&◌, ◌||◌, zero, suc, List, [], ◌∷◌, length, map, get_or, refl, ap, sym, ◌∙◌, arith, Some, Ok, Err, codes, nat_lt, nat_tests, IsUtf8, get_or_default, option_map, option_and_then, unwrap_or, All, list_all, list_any, eq-eqb, length-map, get_or-map, length-map-range_with_len, get_or-map-range_with_len, fill_by_all, range_with_len, map-map, subst, Text, CellValue, LabelValue, na, na_cell, int_cell, truth_cell, Kind, Int64, Boolean}, specs.{cells.Cell.{text_cell, holds, string, cell_label}, cells.Reduce.{is_present}, tables.Table.{Table, ColumnOf, RowOf, no_column, column_at, row_of, rows_of}, tables.Valid.{within_limits}, format.Told.{cell_at}, declared.{Orient.{Orient}, Orient.TheVariants.{Split}}, JsonWrite.{value_text, label_json, cell_json, column_labels, row_labels, labels_json, cells_json, rows_json, split_json}, JsonRead.{JsonValue, SplitParts, values_in, members_in, cell_in, is_cell, cell_found, label_in, cell_kind, cell_kind, is_of, kind_of_cells, has_two_kinds, column_of_cells, table_of, tuples, keys_in, member_count, array_in, array_under, split_parts, is_row, are_row, is_split, cells_at, split_table, read_split, table_in, table_of_text, table_if_read}}}, json.{specs.{Tree.{depth}, Json.{Json, Items, no_items, item, Members, no_members, member}}}, serde_json.specs.{Data.{Data, put}, Read.{read, of_json, of_members}, Find.{at, get_item}}, std.{specs.Str.Lossy.{utf8_valid_len}, proofs.{lemmas.Str.{utf8_valid_len-IsUtf8}, Common.{ap₂}}}, json.proofs.Printed.Utf8.{IsUtf8-are_ascii}, json_frames.{specs.ReadBack.{IsLabel, IsCell, ShowsKind, IsPlain, read_with, SplitReadsBack}, proofs.{TextLaws.{IsGood, text_utf8, text_read, items_good, items_shallow, items_read, values_back, label_data, cell_data, label_good, label_shallow, label_read, label_is_cell, cell_back, labels_back, labels_are_cells}, TableLaws.{cell_is, cells_count}}}}
use Rattle.json.specs.Json as json
use Rattle.meaning_json.specs.JsonRead as refusal
use Rattle.serde_json.specs.Data as dat
use Rattle.serde_json.specs.View as view

-- Kinds

kind_seen : (k : Kind) (cells : List CellValue) → All (λ c. holds k c ≡ true) cells → (k ≢ Int64 → list_any is_present cells ≡ true) → kind_of_cells cells ≡ k
kind_seen Int64 [] h s = refl
kind_seen Boolean [] h s = absurd (let e : false ≡ true = s (λ q. cc) in cc)
kind_seen string [] h s = absurd (let e : false ≡ true = s (λ q. cc) in cc)
kind_seen k (na_cell ∷ cells) h s = kind_seen k cells (λ k d lt. h (suc k) d (omega arith)) s
kind_seen Int64 (int_cell z ∷ cells) h s = refl
kind_seen Boolean (int_cell z ∷ cells) h s = absurd (let e : false ≡ true = h 0 (int_cell z) (omega arith) in cc)
kind_seen string (int_cell z ∷ cells) h s = absurd (let e : false ≡ true = h 0 (int_cell z) (omega arith) in cc)
kind_seen Int64 (truth_cell b ∷ cells) h s = absurd (let e : false ≡ true = h 0 (truth_cell b) (omega arith) in cc)
kind_seen Boolean (truth_cell b ∷ cells) h s = refl
kind_seen string (truth_cell b ∷ cells) h s = absurd (let e : false ≡ true = h 0 (truth_cell b) (omega arith) in cc)
kind_seen Int64 (text_cell t ∷ cells) h s = absurd (let e : false ≡ true = h 0 (text_cell t) (omega arith) in cc)
kind_seen Boolean (text_cell t ∷ cells) h s = absurd (let e : false ≡ true = h 0 (text_cell t) (omega arith) in cc)
kind_seen string (text_cell t ∷ cells) h s = refl

-- a cell that the kind holds is of the kind
held_is : (k : Kind) (c : CellValue) → holds k c ≡ true → is_of k (cell_kind c) ≡ true
held_is k na_cell h = refl
held_is Int64 (int_cell z) h = refl
held_is Boolean (int_cell z) h = cc
held_is string (int_cell z) h = cc
held_is Int64 (truth_cell b) h = cc
held_is Boolean (truth_cell b) h = refl
held_is string (truth_cell b) h = cc
held_is Int64 (text_cell t) h = cc
held_is Boolean (text_cell t) h = cc
held_is string (text_cell t) h = refl

all_held : (k : Kind) (cells : List CellValue) → All (λ c. holds k c ≡ true) cells → list_all (λ c. is_of k (cell_kind c)) cells ≡ true
all_held k [] h = refl
all_held k (c ∷ cells) h = ap₂ (λ x y. x && y) (held_is k c (h 0 c (omega arith))) (all_held k cells (λ i d lt. h (suc i) d (omega arith)))

module _ (c : ColumnOf CellValue) (h : All (λ x. holds c.kind x ≡ true) c.cells) (s : ShowsKind c) where
  kind_back : kind_of_cells c.cells ≡ c.kind
  kind_back = kind_seen c.kind c.cells h s

  one_kind : has_two_kinds c.cells ≡ false
  one_kind = ap not (ap (λ k. list_all (λ x. is_of k (cell_kind x)) c.cells) kind_back ∙ all_held c.kind c.cells h)

  column_back : column_of_cells c.cells ≡ c
  column_back = λ i. record { kind = kind_back i; cells = c.cells }

abbrev pub cells_of : ColumnOf CellValue → List CellValue
cells_of c = c.cells

columns_back : (cs : List (ColumnOf CellValue)) → All (λ (c : ColumnOf CellValue). All (λ x. holds c.kind x ≡ true) c.cells) cs → All ShowsKind cs → (list_any has_two_kinds (map cells_of cs) ≡ false) × (map column_of_cells (map cells_of cs) ≡ cs)
columns_back [] h s = (refl, refl)
columns_back (c ∷ cs) h s =
    let rest = columns_back cs (λ k d lt. h (suc k) d (omega arith)) (λ k d lt. s (suc k) d (omega arith)) in
    let held = h 0 c (omega arith) in
    let shown = s 0 c (omega arith) in (
      ap₂ (λ x y. x || y) (one_kind c held shown) rest.0,
      ap₂ (λ x xs. x ∷ xs) (column_back c held shown) rest.1,
    )

-- a table with these columns is made where it is within the limits
pub table_made : (labels rows : List (List LabelValue)) (cs : List (ColumnOf CellValue)) → All (λ (c : ColumnOf CellValue). All (λ x. holds c.kind x ≡ true) c.cells) cs → All ShowsKind cs → within_limits (length rows) (length labels) ≡ true
    → table_of labels rows (map cells_of cs) ≡ Ok record { labels = labels; rows = rows; columns = cs }
table_made labels rows cs h s w =
    let back = columns_back cs h s in
    ap (λ b. cond b (Err refusal.two_kinds) (cond (within_limits (length rows) (length labels)) (Ok record { labels = labels; rows = rows; columns = map column_of_cells (map cells_of cs) }) (Err refusal.beyond_limits))) back.0
    ∙ ap (λ b. cond b (Ok record { labels = labels; rows = rows; columns = map column_of_cells (map cells_of cs) }) (Err refusal.beyond_limits)) w
    ∙ ap (λ l. Ok record { labels = labels; rows = rows; columns = l }) back.1

-- The value of a whole table

abbrev row_data : RowOf LabelValue CellValue → Data
row_data r = dat.array (view.items_of (map cell_data r.cells))

abbrev array_data : List Data → Data
array_data ds = dat.array (view.items_of ds)

three_read : (k1 k2 k3 : Text) (j1 j2 j3 : Json) (d1 d2 d3 : Data) → of_json j1 ≡ Some d1 → of_json j2 ≡ Some d2 → of_json j3 ≡ Some d3
    → of_json (json.object (member k1 j1 (member k2 j2 (member k3 j3 no_members)))) ≡ Some (dat.object (put k3 d3 (put k2 d2 (put k1 d1 dat.no_members))))
three_read k1 k2 k3 j1 j2 j3 d1 d2 d3 e1 e2 e3 =
    ap (λ o. option_map dat.object (option_and_then (λ d. of_members (member k2 j2 (member k3 j3 no_members)) (put k1 d dat.no_members)) o)) e1
    ∙ ap (λ o. option_map dat.object (option_and_then (λ d. of_members (member k3 j3 no_members) (put k2 d (put k1 d1 dat.no_members))) o)) e2
    ∙ ap (λ o. option_map dat.object (option_and_then (λ d. of_members no_members (put k3 d (put k2 d2 (put k1 d1 dat.no_members)))) o)) e3

-- the value of the three arrays has them as its parts
split_in : (columns index rows : List Data)
    → table_in Split (dat.object (put (codes "data") (array_data rows) (put (codes "index") (array_data index) (put (codes "columns") (array_data columns) dat.no_members)))) ≡ read_split (Some record { columns = columns; index = index; rows = rows })
split_in columns index rows =
    ap (λ l. read_split (Some record { columns = l; index = values_in (view.items_of index); rows = values_in (view.items_of rows) })) (values_back columns)
    ∙ ap (λ l. read_split (Some record { columns = columns; index = l; rows = values_in (view.items_of rows) })) (values_back index)
    ∙ ap (λ l. read_split (Some record { columns = columns; index = index; rows = l })) (values_back rows)

four : (a b c d : Bool) → a ≡ true → b ≡ true → c ≡ true → d ≡ true → (a && b && c && d) ≡ true
four = grind arith

not_less : (a b : ℕ) → a ≡ b → nat_lt a b ≡ false
not_less = grind (arith, nat_tests)

-- a text in UTF-8 reads as its value
pub text_means : (orient : Orient) (bytes : Text) (d : Data) → IsUtf8 bytes → read bytes ≡ Some d → table_of_text orient bytes ≡ table_in orient d
text_means orient bytes d utf8 e =
    ap (λ b. cond b (Err (refusal.not_utf8 (utf8_valid_len bytes))) (table_if_read orient (read bytes))) (not_less _ _ (utf8_valid_len-IsUtf8 bytes utf8))
    ∙ ap (table_if_read orient) e

-- Rows

cells_are : (cs : List CellValue) → All IsCell cs → list_all is_cell (map cell_data cs) ≡ true
cells_are [] h = refl
cells_are (c ∷ cs) h = ap₂ (λ x y. x && y) (label_is_cell (cell_label c) (h 0 c (omega arith))) (cells_are cs (λ k d lt. h (suc k) d (omega arith)))

pub item_at : (cs : List CellValue) (k : ℕ) → k < length cs → get_item k (view.items_of (map cell_data cs)) ≡ Some (cell_data (get_or cs k na_cell))
item_at [] k h = absurd (omega arith)
item_at (c ∷ cs) zero h = refl
item_at (c ∷ cs) (suc k) h = item_at cs k (omega arith)

rows_are : (w : ℕ) (rs : List (RowOf LabelValue CellValue)) → All (λ (r : RowOf LabelValue CellValue). length r.cells ≡ w) rs → All (λ (r : RowOf LabelValue CellValue). All IsCell r.cells) rs → list_all (is_row w) (map row_data rs) ≡ true
rows_are w [] n h = refl
rows_are w (r ∷ rs) n h =
    let one : is_row w (row_data r) ≡ true =
    ap (λ l. are_row w (Some l)) (values_back (map cell_data r.cells))
    ∙ ap₂ (λ x y. x && y) (eq-eqb _ _ (length-map r.cells cell_data ∙ n 0 r (omega arith))) (cells_are r.cells (h 0 r (omega arith))) in
    ap₂ (λ x y. x && y) one (rows_are w rs (λ k d lt. n (suc k) d (omega arith)) (λ k d lt. h (suc k) d (omega arith)))

singles : (ts : List (List LabelValue)) → All (λ (tuple : List LabelValue). length tuple ≡ 1) ts → tuples (map (λ tuple. get_or tuple 0 na) ts) ≡ ts
singles [] h = refl
singles ([] ∷ ts) h = absurd (let e : 0 ≡ 1 = h 0 [] (omega arith) in omega arith)
singles ((l ∷ []) ∷ ts) h = ap (λ l'. (l ∷ []) ∷ l') (singles ts (λ k d lt. h (suc k) d (omega arith)))
singles ((l ∷ m ∷ ls) ∷ ts) h = absurd (let e : suc (suc (length ls)) ≡ 1 = h 0 (l ∷ m ∷ ls) (omega arith) in omega arith)

-- a plain frame
module _ (t : Table) (plain : IsPlain t) where
  pub wide : length t.columns ≡ length (column_labels t)
  wide = sym (length-map t.headings _ ∙ plain.valid.whole.headed)

  pub cell_plain : (row k : ℕ) → row < length t.labels → k < length t.columns → IsCell (cell_at t row k)
  cell_plain row k h lt = plain.cells k no_column lt row na_cell (omega (arith, plain.valid.whole.filled k no_column lt))

  -- the cells of a row
  row_cells : (row : ℕ) → row < length t.labels → All IsCell (row_of na_cell t row).cells
  row_cells row h = λ k d lt.
      let within : k < length t.columns = omega (arith, cells_count t row k) in
      subst IsCell (sym (get_or_default (row_of na_cell t row).cells k d na_cell lt ∙ cell_is t row k within)) (cell_plain row k h within)

  pub all_rows : (P : RowOf LabelValue CellValue → Type 0) → ((row : ℕ) → row < length t.labels → P (row_of na_cell t row)) → All P (rows_of na_cell t)
  all_rows P h = λ k d lt.
      let within : k < length t.labels = omega (arith, length-map-range_with_len (row_of na_cell t) 0 (length t.labels)) in
      subst P (sym (get_or-map-range_with_len (row_of na_cell t) 0 (length t.labels) k k d within (omega arith))) (h k within)

  pub rows_plain : All (λ (r : RowOf LabelValue CellValue). All IsCell r.cells) (rows_of na_cell t)
  rows_plain = all_rows (λ (r : RowOf LabelValue CellValue). All IsCell r.cells) row_cells

  row_counts : All (λ (r : RowOf LabelValue CellValue). length r.cells ≡ length (map label_data (column_labels t))) (rows_of na_cell t)
  row_counts = all_rows (λ (r : RowOf LabelValue CellValue). length r.cells ≡ length (map label_data (column_labels t))) (λ row h. cells_count t row 0 ∙ wide ∙ sym (length-map (column_labels t) label_data))

  -- the JSON of its parts
  labels_value : (ls : List LabelValue) → All IsLabel ls → of_json (labels_json ls) ≡ Some (array_data (map label_data ls))
  labels_value ls h = ap (option_map dat.array) (items_read label_json label_data ls (λ k d lt. label_read _ (h k d lt)))

  cells_value : (r : RowOf LabelValue CellValue) → All IsCell r.cells → of_json (cells_json r) ≡ Some (row_data r)
  cells_value r h = ap (option_map dat.array) (items_read cell_json cell_data r.cells (λ k d lt. label_read _ (h k d lt)))

  rows_value : of_json (rows_json t) ≡ Some (array_data (map row_data (rows_of na_cell t)))
  rows_value = ap (option_map dat.array) (items_read cells_json row_data (rows_of na_cell t) (λ k d lt. cells_value (get_or (rows_of na_cell t) k d) (rows_plain k d lt)))

  split_good : IsGood (split_json t)
  split_good = (
    IsUtf8-are_ascii (codes "columns") refl,
    (
      items_good label_json (column_labels t) (λ k d lt. label_good _ (plain.headings k d lt)),
      (
        IsUtf8-are_ascii (codes "index") refl,
        (
          items_good label_json (row_labels t) (λ k d lt. label_good _ (plain.labels k d lt)),
          (
            IsUtf8-are_ascii (codes "data") refl,
            (items_good cells_json (rows_of na_cell t) (λ k d lt. items_good cell_json _ (λ j e l. label_good _ (rows_plain k d lt j e l))), tt),
          ),
        ),
      ),
    ),
  )

  row_shallow : (r : RowOf LabelValue CellValue) → depth (cells_json r) ≤ 1
  row_shallow r = omega (arith, items_shallow cell_json 0 (λ c. omega (arith, label_shallow (cell_label c))) r.cells)

  split_shallow : depth (split_json t) ≤ 127
  split_shallow =
      let a = items_shallow label_json 0 (λ l. omega (arith, label_shallow l)) (column_labels t) in
      let b = items_shallow label_json 0 (λ l. omega (arith, label_shallow l)) (row_labels t) in
      let c = items_shallow cells_json 1 row_shallow (rows_of na_cell t) in
      omega (arith, a, b, c)

  -- a column of the rows
  column_at_rows : (k : ℕ) → k < length t.columns → cells_at (map row_data (rows_of na_cell t)) k ≡ (column_at t.columns k).cells
  column_at_rows k h =
      let n : ℕ = length t.labels in
      let cells : List CellValue = (column_at t.columns k).cells in
      let found : (row : ℕ) → row < n → get_or cells row na_cell ≡ cell_found (at k (row_data (row_of na_cell t row))) =
      λ row lt. sym (
      ap cell_found (item_at (row_of na_cell t row).cells k (omega (arith, cells_count t row k)))
      ∙ ap (λ o. unwrap_or o na_cell) (cell_back _ (subst IsCell (sym (cell_is t row k h)) (cell_plain row k lt h)))
      ∙ cell_is t row k h
      ) in
      map-map _ _ (rows_of na_cell t) ∙ map-map _ _ (range_with_len 0 n)
      ∙ sym (fill_by_all (λ row. cell_found (at k (row_data (row_of na_cell t row)))) cells n na_cell (plain.valid.whole.filled k no_column h) found)

  columns_at_rows : map (cells_at (map row_data (rows_of na_cell t))) (range_with_len 0 (length (map label_data (column_labels t)))) ≡ map cells_of t.columns
  columns_at_rows =
      let w : ℕ = length (map label_data (column_labels t)) in
      let is : w ≡ length t.columns = length-map (column_labels t) label_data ∙ sym wide in
      sym (
      fill_by_all (cells_at (map row_data (rows_of na_cell t))) (map cells_of t.columns) w [] (length-map t.columns cells_of ∙ sym is)
      (λ k lt. get_or-map cells_of t.columns k no_column [] (omega arith) ∙ sym (column_at_rows k (omega arith)))
      )

  abbrev parts : SplitParts
  parts = record { columns = map label_data (column_labels t); index = map label_data (row_labels t); rows = map row_data (rows_of na_cell t) }

  parts_fit : is_split parts ≡ true
  parts_fit =
      four _ _ _ _ (labels_are_cells (column_labels t) plain.headings) (labels_are_cells (row_labels t) plain.labels)
      (eq-eqb _ _ (
      length-map (rows_of na_cell t) row_data ∙ length-map-range_with_len (row_of na_cell t) 0 (length t.labels)
      ∙ sym (length-map (row_labels t) label_data ∙ length-map t.labels _)
      ))
      (rows_are _ (rows_of na_cell t) row_counts rows_plain)

  parts_read : split_table parts ≡ Ok (read_with t.labels t)
  parts_read =
      ap (λ l. table_of (tuples l) (tuples (map label_in parts.index)) (map (cells_at parts.rows) (range_with_len 0 (length parts.columns)))) (labels_back (column_labels t) plain.headings)
      ∙ ap (λ l. table_of (tuples (column_labels t)) l (map (cells_at parts.rows) (range_with_len 0 (length parts.columns))))
      (ap tuples (labels_back (row_labels t) plain.labels) ∙ singles t.labels (λ k d lt. plain.valid.levels k d lt ∙ plain.single))
      ∙ ap (table_of (tuples (column_labels t)) t.labels) columns_at_rows
      ∙ table_made (tuples (column_labels t)) t.labels t.columns plain.valid.held plain.kinds
      (ap (within_limits (length t.labels)) (length-map (column_labels t) _ ∙ sym wide) ∙ plain.valid.limited)

  pub split_back : SplitReadsBack t
  split_back =
      let read_is = text_read (split_json t) split_good split_shallow
      ∙ three_read (codes "columns") (codes "index") (codes "data") (labels_json (column_labels t)) (labels_json (row_labels t)) (rows_json t) (array_data parts.columns) (array_data parts.index) (array_data parts.rows) (labels_value (column_labels t) plain.headings) (labels_value (row_labels t) plain.labels) rows_value in
      text_means Split (value_text (split_json t)) _ (text_utf8 (split_json t) split_good) read_is
      ∙ split_in parts.columns parts.index parts.rows
      ∙ ap (λ b. cond b (split_table parts) (Err refusal.not_table)) parts_fit
      ∙ parts_read
