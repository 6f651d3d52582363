-- Joined labels bring together columns that the operator takes, where it takes those of both frames and those of one label.
use Rattle.{frame_parts.{proofs.Common.{◌≡◌, ◌∙◌, ◌<◌, ℕ, zero, suc, pos, Bool, true, List, [], ◌∷◌, ◌++◌, map, length, slice_index_or, refl, sym, unwrap_or, arith, All, All-nil, All-cons, All-head, All-tail, All-append, All-map, Option, Some, None, Ok, length-map, list_all, list_any, Kind, Binary, CellValue, LabelValue, int, na_cell, column_labels, column_of_value, Table, ColumnOf, column_at, no_column, labels_fit, columns_or_missing, meets, beside, same_tuple, spread, tuple_heading}, specs.{form.Infix.{Joined, joined_rows, frames_fit, pairs_fit, takes_twice, takes_each, takes_rows, column_or_missing, tuple_before, spread_series}, align.Joins.{Entry, or_gap, entry, entries_of, keys_in_order, outer_entries, lists_of}}}, std.{specs.{Bool.{Decides}, Prelude.{is_some}}, proofs.lemmas.List.Folds.{list_all_at, list_any_at}}, column_core.{proofs.cells.Common.{get_or-map}, specs.cells.Operator.{operator_kind}}, label_align.{specs.pick.Rows.{rows_where}, proofs.align.OrderLaws.{all_flat, all_distinct, all_in_order}}, frame_ops.proofs.{FitLaws.{kind_same, IsRow, rows_pass, no_row, pair_at, pair_all}, CountLaws.{tuple_decides}}}

module _ {K : Type 0} (same less : K → K → Bool) (decides : (a b : K) → Decides (same a b) (a ≡ b)) where
  -- a row of a side with this key, or none where the side has no such row
  abbrev IsGap : List K → K → Option ℕ → Type 0
  IsGap xs key (Some row) = IsRow (same key) xs row
  IsGap xs key None = rows_where (same key) 0 xs ≡ []

  gaps_of : (xs : List K) (key : K) → All (IsGap xs key) (or_gap (rows_where (same key) 0 xs))
  gaps_of xs key = by (rows_where (same key) 0 xs) refl
    where
      by : (rows : List ℕ) → rows_where (same key) 0 xs ≡ rows → All (IsGap xs key) (or_gap rows)
      by [] none = All-cons (IsGap xs key) None [] none (All-nil (IsGap xs key))
      by (row ∷ rows) is = All-map (IsGap xs key) Some (row ∷ rows) (rw is at (rows_pass (same key) xs))

  module _ (left right : List K) where
    -- one of the sides has the key
    abbrev IsThere : K → Type 0
    IsThere key = rows_where (same key) 0 left ≡ [] → rows_where (same key) 0 right ≡ [] → ⊥

    pub record IsMet (e : Entry K) : Type 0 where
      pub there : IsThere e.key
      pub left_row : IsGap left e.key e.left
      pub right_row : IsGap right e.key e.right

    of_key : (key : K) → IsThere key → All IsMet (entries_of key (rows_where (same key) 0 left) (rows_where (same key) 0 right))
    of_key key here =
        all_flat IsMet (IsGap left key) _
        (λ gap at. All-map IsMet (entry key gap) (or_gap (rows_where (same key) 0 right)) (λ k d lt. record { there = here; left_row = at; right_row = gaps_of right key k d lt }))
        (or_gap (rows_where (same key) 0 left)) (gaps_of left key)

    itself : (key : K) → same key key ≡ true
    itself key = (decides key key).1 refl

    keys_there : All IsThere (left ++ right)
    keys_there =
        All-append IsThere left right (λ k d lt none _. no_row (same (slice_index_or left k d)) 0 left k d none lt (itself (slice_index_or left k d)))
        (λ k d lt _ none. no_row (same (slice_index_or right k d)) 0 right k d none lt (itself (slice_index_or right k d)))

    pub entries_met : All IsMet (outer_entries same less left right)
    entries_met =
        all_flat IsMet IsThere (λ key. entries_of key (rows_where (same key) 0 left) (rows_where (same key) 0 right)) of_key (keys_in_order same less (left ++ right))
        (all_in_order IsThere less _ (all_distinct IsThere same (left ++ right) keys_there))

    -- columns under these labels
    module _ (na : CellValue) (op : Binary) (own other : List (ColumnOf CellValue)) (many : length left ≡ length own) (many' : length right ≡ length other)
        (taken : list_all (takes_twice op) own ≡ true) (taken' : list_all (takes_twice op) other ≡ true) (fit : pairs_fit same left own right other ≡ true) where
      abbrev taken_at : ℕ → ℕ → Option ℕ → Option ℕ → Bool
      taken_at m n p o = is_some (operator_kind op (column_or_missing na m own other p o).kind (column_or_missing na n other own o p).kind)

      twice : (cs : List (ColumnOf CellValue)) (k : ℕ) → list_all (takes_twice op) cs ≡ true → k < length cs → takes_twice op (column_at cs k) ≡ true
      twice cs k all lt = grind (arith, list_all_at (takes_twice op) cs k no_column lt)

      entry_taken : (m n : ℕ) (key : K) (p o : Option ℕ) → IsThere key → IsGap left key p → IsGap right key o → taken_at m n p o ≡ true
      entry_taken m n key (Some p) (Some q) there at at' =
          let met = pair_at same left own right other many many' fit p q key key at.0 at'.0 (grind (arith, decides, at.1 key, at'.1 key)) in
          grind (arith, twice own p taken)
      entry_taken m n key (Some p) None there at at' = grind (arith, twice own p taken)
      entry_taken m n key None (Some q) there at at' = grind (arith, twice other q taken')
      entry_taken m n key None None there at at' = absurd (there at at')

      pub all_taken : (m n : ℕ) (entries : List (Entry K)) → All IsMet entries
          → list_all (meets op) (beside (columns_or_missing na m own other (map (λ e. e.left) entries) (map (λ e. e.right) entries)) (columns_or_missing na n other own (map (λ e. e.right) entries) (map (λ e. e.left) entries))) ≡ true
      all_taken m n [] all = refl
      all_taken m n (e ∷ es) all =
          let met : IsMet e = All-head IsMet e es all in
          let first = entry_taken m n e.key e.left e.right met.there met.left_row met.right_row in
          let rest = all_taken m n es (All-tail IsMet e es all) in
          cc

-- Frames, with texts.
abbrev Tuple : Type 0
Tuple = List LabelValue

labels_many : (t : Table) → length t.headings ≡ length t.columns → length (column_labels t) ≡ length t.columns
labels_many = grind (arith, length-map)

module _ (op : Binary) where
  module _ (v w : Table) (fit : frames_fit op v w ≡ true) (headed : length v.headings ≡ length v.columns) (headed' : length w.headings ≡ length w.columns) where
    taken : list_all (takes_twice op) v.columns ≡ true
    taken = grind arith

    taken' : list_all (takes_twice op) w.columns ≡ true
    taken' = grind arith

    pairs : pairs_fit same_tuple (column_labels v) v.columns (column_labels w) w.columns ≡ true
    pairs = grind arith

    many : length (column_labels v) ≡ length v.columns
    many = labels_many v headed

    many' : length (column_labels w) ≡ length w.columns
    many' = labels_many w headed'

    met_is : (j : Joined) → joined_rows (column_labels v) (column_labels w) ≡ Ok j → j ≡ lists_of (outer_entries same_tuple tuple_before (column_labels v) (column_labels w))
    met_is j is = grind arith

    -- joined labels bring together columns that the operator takes
    pub wide_meets : (j : Joined) → joined_rows (column_labels v) (column_labels w) ≡ Ok j → (m n : ℕ)
        → list_all (meets op) (beside (columns_or_missing na_cell m v.columns w.columns j.left j.right) (columns_or_missing na_cell n w.columns v.columns j.right j.left)) ≡ true
    wide_meets j is m n =
        let entries = outer_entries same_tuple tuple_before (column_labels v) (column_labels w) in
        rw (met_is j is) (all_taken same_tuple tuple_before tuple_decides (column_labels v) (column_labels w) na_cell op v.columns w.columns many many' taken taken' pairs m n entries
        (entries_met same_tuple tuple_before tuple_decides (column_labels v) (column_labels w)))

    -- whichever is on the left
    pub turned_fit : frames_fit op w v ≡ true
    turned_fit =
        let met = pair_at same_tuple (column_labels v) v.columns (column_labels w) w.columns many many' pairs in
        let turned : pairs_fit same_tuple (column_labels w) w.columns (column_labels v) v.columns ≡ true =
        pair_all same_tuple (column_labels w) w.columns (column_labels v) v.columns (λ q p e d lt lt' same. sym (met p q d e lt' lt (grind (arith, tuple_decides)))) in
        cc (taken, taken')

  -- a Series in each row of a frame
  label_at : (kind : Kind) (labels keys : List Tuple) (cs : List (ColumnOf CellValue)) (p : ℕ) (d : Tuple) → labels_fit same_tuple kind labels keys cs ≡ true → length keys ≡ length cs → p < length keys
      → list_any (same_tuple (slice_index_or keys p d)) labels ≡ true → kind ≡ (column_at cs p).kind
  label_at kind labels (key ∷ keys) (c ∷ cs) zero d fit many lt found = grind (arith, kind_same)
  label_at kind labels (key ∷ keys) (c ∷ cs) (suc p) d fit many lt found = grind (arith, label_at kind labels keys cs p d)
  label_at kind labels [] cs p d fit many lt found = grind arith
  label_at kind labels (key ∷ keys) [] p d fit many lt found = grind arith

  labels_back : (labels : List Tuple) → All (λ t. length t ≡ 1) labels → map (λ h. unwrap_or h (int (pos 0)) ∷ []) (map tuple_heading labels) ≡ labels
  labels_back [] alike = refl
  labels_back ((l ∷ []) ∷ ts) alike = cc (labels_back ts (All-tail (λ (t : Tuple). length t ≡ 1) (l ∷ []) ts alike))
  labels_back ([] ∷ ts) alike = absurd (grind (arith, All-head (λ (t : Tuple). length t ≡ 1) [] ts alike))
  labels_back ((l ∷ k ∷ ks) ∷ ts) alike = absurd (grind (arith, All-head (λ (t : Tuple). length t ≡ 1) (l ∷ k ∷ ks) ts alike))

  module _ (v s : Table) (headed : length v.headings ≡ length v.columns) (filled : length (column_at s.columns 0).cells ≡ length s.labels) (alike : All (λ t. length t ≡ 1) s.labels) where
    abbrev kind : Kind
    kind = (column_at s.columns 0).kind

    abbrev cells : List CellValue
    cells = (column_at s.columns 0).cells

    abbrev columns : List (ColumnOf CellValue)
    columns = map (λ c. column_of_value (spread kind (length v.labels) c)) cells

    each_taken : takes_twice op (column_at s.columns 0) ≡ true → (xs : List CellValue) → list_all (takes_twice op) (map (λ c. column_of_value (spread kind (length v.labels) c)) xs) ≡ true
    each_taken taken [] = refl
    each_taken taken (x ∷ xs) = cc (each_taken taken xs)

    spread_taken : (xs : List CellValue) (ls : List Tuple) → length xs ≡ length ls → takes_rows op ls (column_at s.columns 0) ≡ true → list_all (takes_twice op) (map (λ c. column_of_value (spread kind (length v.labels) c)) xs) ≡ true
    spread_taken [] ls same taken = refl
    spread_taken (x ∷ xs) [] same taken = grind arith
    spread_taken (x ∷ xs) (l ∷ ls) same taken = each_taken taken (x ∷ xs)

    kind_is : (xs : List CellValue) (q : ℕ) → q < length xs → (column_at (map (λ c. column_of_value (spread kind (length v.labels) c)) xs) q).kind ≡ kind
    kind_is xs q lt = grind (arith, get_or-map (λ c. column_of_value (spread kind (length v.labels) c)) xs q na_cell no_column lt)

    found : (key : Tuple) (labels : List Tuple) (q : ℕ) (e : Tuple) → q < length labels → same_tuple (slice_index_or labels q e) key ≡ true → list_any (same_tuple key) labels ≡ true
    found key labels q e lt same = list_any_at (same_tuple key) labels q e lt (grind (arith, tuple_decides))

    pub spread_fit : takes_each op v s ≡ true → labels_fit same_tuple kind s.labels (column_labels v) v.columns ≡ true → frames_fit op v (spread_series v s) ≡ true
    spread_fit taken fit =
        let pairs : pairs_fit same_tuple (column_labels v) v.columns s.labels columns ≡ true =
        pair_all same_tuple (column_labels v) v.columns s.labels columns (λ p q d e lt lt' same.
        kind_is cells q (omega (arith, filled)) ∙ label_at kind s.labels (column_labels v) v.columns p d fit (labels_many v headed) lt (found (slice_index_or (column_labels v) p d) s.labels q e lt' same)) in
        let left : list_all (takes_twice op) v.columns ≡ true = grind arith in
        let right = spread_taken cells s.labels filled (grind arith) in
        cc (labels_back s.labels alike)
