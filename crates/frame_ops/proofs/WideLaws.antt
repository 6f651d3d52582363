-- Frames under joined labels of columns, and a Series in each row of a frame.
use Rattle.{frame_parts.{proofs.Common.{◌≡◌, ◌∙◌, ◌<◌, ◌+◌, ◌++◌, ℕ, zero, suc, pos, List, [], ◌∷◌, length, map, take, replicate, refl, ap, sym, subst, arith, add-one, All, Option, Some, None, Result, slice_index_or, Bool, true, false, Ok, Err, if◌then◌else◌, ◌&&◌, ◌||◌, nat_eq, drop, map_more, length-map, length-replicate, map-append, All-nil, All-cons, All-head, All-tail, All-map, All-replicate, list_all-map, get_or_from_slice_get, nat_tests, drop-cons, slice_get, IsSome, unwrap_or, list_any, list_all, single_block, HeadingList, block_column, table_column, labels_value, headings_value, columns_value, IsKnownTable, OpFault, Refused, NoMemory, settled_by, table_settled, columns_settled, columns_given, columns_name_part, level_names_part, labels_part, headings_part, columns_part, Cell, Na, Label, Kind, Shape, Frame, Series, AreGiven, IsGiven, AreDistinct, Text, LabelValue, int, na_cell, datum, limit, FaultValue, wrong_kind, bad_value, not_aligned, then_value, Binary, CellBlock, CellColumn, IsPlaceOf, AxisValue, HaveLevels, IsSettled, ColumnOf, NumberedTable, column_at, column_value, table_value, Table, tuple_value, AreHeadings, IsWhole, within_limits, Entry, column_labels, unless_repeated, limited_table, column_of_value, same_kind, tuple_heading, columns_or_missing, spread, same_tuple, on_levels, compares, labels_fit, MakesBy, tuple_by_number, tuples_settled}, specs.form.{Infix.{column_or_missing, on_columns, spread_series, spread_frame, takes_each, joined_turned, across_unequal, pairs_fit, frames_fit, takes_twice, same_count}, Finish.{first_repeated}}}, column_core.{proofs.cells.Common.{get_or-map}}, frame_store.specs.Parts.{with_heading}, frame_select.{proofs.AnswerLaws.{column_seen}, specs.Headings.{shared_heading, NamesRepeated}}, frame_ops.{proofs.{MeetingLaws.{map-replicate, levels_one}, HeadingLaws.{one_label, none_repeated, one_repeated}, InfixLaws.{series_given}, FitLaws.{rows_pass, pairs_by_firsts, one_kind_fits}, FrameFitLaws.{spread_fit, turned_fit}}, specs.{Joining.{AreSideRows}, Fitting.{of_one_kind, fits_first, firsts_fit, MayWiden}, Widening.{heading_tuple, labels_axis, headings_of_keys, widened, spread_table}, Pairs.{repeated}}}, label_align.{specs.pick.Rows.{rows_where, are_some}, proofs.SameLaws.{tuple_decides}}, row_keys.specs.{Keys.{same_tuple as same_numbers}, Partners.{rows_with}}}

-- lists of as many items
same_itself : {A : Type 0} (xs : List A) → same_count xs xs ≡ true
same_itself [] = refl
same_itself (x ∷ xs) = same_itself xs

count_turned : {A B : Type 0} (xs : List A) (ys : List B) → same_count xs ys ≡ true → same_count ys xs ≡ true
count_turned [] [] same = refl
count_turned (x ∷ xs) (y ∷ ys) same = count_turned xs ys same
count_turned [] (y ∷ ys) same = grind arith
count_turned (x ∷ xs) [] same = grind arith

-- labels of columns as tuples
pub tuples_alike : (hs : List (Option Label)) → HaveLevels 1 (map heading_tuple hs)
tuples_alike hs = All-map (λ tuple. length tuple ≡ 1) heading_tuple hs (λ k d lt. grind arith)

abbrev label_tuple : Option LabelValue → List LabelValue
label_tuple h = unwrap_or h (int (pos 0)) ∷ []

module _ (texts : List Text) where
  pub tuples_seen : (hs : List (Option Label)) → map label_tuple (headings_value texts hs) ≡ labels_value texts (map heading_tuple hs)
  tuples_seen [] = refl
  tuples_seen (None ∷ hs) = cc (tuples_seen hs)
  tuples_seen (Some l ∷ hs) = cc (tuples_seen hs)

  pub keys_seen : (keys : List (List Label)) → headings_value texts (map tuple_heading keys) ≡ map tuple_heading (labels_value texts keys)
  keys_seen [] = refl
  keys_seen ([] ∷ keys) = cc (keys_seen keys)
  keys_seen ((l ∷ ls) ∷ keys) = cc (keys_seen keys)

module _ (x : AxisValue) (t : NumberedTable) (is : x ≡ labels_axis t) where
  pub labels_seen : (texts : List Text) → labels_value texts x.tuples ≡ column_labels (table_value texts t)
  labels_seen = grind (arith, tuples_seen)

  pub labels_given : (texts : List Text) → IsSettled table_value texts t → IsSettled labels_value texts x.tuples
  labels_given _ settled = rw is (settled_by headings_value labels_value (map _) _ _ _ (λ more. tuples_seen _ _) (headings_part _ t settled))

-- the headings of keys, one more of them

pub one_more_key : (name : Option Label) (keys : List (List Label)) (place : ℕ) (tuple : List Label) (l : Label) (h h' : HeadingList) → place < length keys → h ≡ headings_of_keys name (take place keys)
    → slice_get keys place ≡ Some tuple → slice_get tuple 0 ≡ Some l → h' ≡ with_heading h (Some l) → h' ≡ headings_of_keys name (take (place + 1) keys)
one_more_key _ keys place _ _ _ _ lt before at first pushed = grind (arith, get_or_from_slice_get, map_more tuple_heading keys place [] lt)

-- columns at places, or missing
module _ (count : ℕ) (own other : List (ColumnOf Cell)) where
  abbrev column : Option ℕ → Option ℕ → ColumnOf Cell
  column p o = column_or_missing Na count own other p o

  abbrev wide : List (Option ℕ) → List (Option ℕ) → List (ColumnOf Cell)
  wide ps os = columns_or_missing Na count own other ps os

  one_more_column : (k : ℕ) (ps os : List (Option ℕ)) → k < length ps → length os ≡ length ps → wide (take (suc k) ps) (take (suc k) os) ≡ wide (take k ps) (take k os) ++ column (slice_index_or ps k None) (slice_index_or os k None) ∷ []
  one_more_column zero (p ∷ ps) (o ∷ os) _ _ = refl
  one_more_column (suc k) (p ∷ ps) (o ∷ os) lt same = cc (one_more_column k ps os (omega (arith, lt)) (omega (arith, same)))
  one_more_column k ps os lt same = grind arith

  length-wide : (ps os : List (Option ℕ)) → length os ≡ length ps → length (wide ps os) ≡ length ps
  length-wide (p ∷ ps) (o ∷ os) same = ap suc (length-wide ps os (omega (arith, same)))
  length-wide [] os same = refl
  length-wide (p ∷ ps) [] same = search

  all_wide : (P : ColumnOf Cell → Type 0) → ((p o : Option ℕ) → IsPlaceOf (length own) p → P (column p o)) → (ps os : List (Option ℕ)) → All (IsPlaceOf (length own)) ps → All P (wide ps os)
  all_wide P each (p ∷ ps) (o ∷ os) all =
      All-cons P _ (wide ps os) (each p o (All-head (IsPlaceOf (length own)) p ps all)) (all_wide P each ps os (All-tail (IsPlaceOf (length own)) p ps all))
  all_wide P each ps os all = All-nil P

  -- with texts
  module _ (texts : List Text) where
    wide_column_seen : (p o : Option ℕ) → column_value texts (column p o) ≡ column_or_missing na_cell count (columns_value texts own) (columns_value texts other) p o
    wide_column_seen (Some p) o = sym (column_seen texts own p)
    wide_column_seen None (Some o) = grind (arith, column_seen, map-replicate)
    wide_column_seen None None = search map-replicate

    wide_seen : (ps os : List (Option ℕ)) → columns_value texts (wide ps os) ≡ columns_or_missing na_cell count (columns_value texts own) (columns_value texts other) ps os
    wide_seen (p ∷ ps) (o ∷ os) = λ i. wide_column_seen p o i ∷ wide_seen ps os i
    wide_seen [] os = refl
    wide_seen (p ∷ ps) [] = refl

-- labels of columns, each of one level, as headings of a frame
headings_some : (labels : List (List Label)) → HaveLevels 1 labels → All IsSome (map tuple_heading labels)
headings_some labels alike = All-map IsSome tuple_heading labels (λ k d lt. grind (arith, one_label))

keys_head : (shape : Shape) → shape ≡ Frame → (name : Option Label) (keys : List (List Label)) → HaveLevels 1 keys → AreHeadings shape name (map tuple_heading keys)
keys_head = grind (arith, headings_some)

module _ (own other : NumberedTable) (keys : List (List Label)) (places opposites : List (Option ℕ)) where
  pub widened_seen : (texts : List Text) → table_value texts (widened own other keys places opposites) ≡ on_columns (table_value texts own) (table_value texts other) (labels_value texts keys) places opposites
  widened_seen = search (wide_seen, length-map, keys_seen)

  -- rows of the labels of columns are places of columns
  module _ (frame : own.shape ≡ Frame) (are : HaveLevels 1 keys) (side : AreSideRows (length keys) (labels_axis own) places) (side' : AreSideRows (length keys) (labels_axis other) opposites) where
    inside : IsWhole own → All (IsPlaceOf (length own.columns)) places
    inside = grind (arith, length-map)

    abbrev count : ℕ
    count = length own.labels

    pub widened_whole : IsWhole own → IsWhole (widened own other keys places opposites)
    widened_whole whole = record {
      headed = grind (arith, length-map, length-wide);
      filled = all_wide _ _ _ (λ c. length c.cells ≡ count) column_filled places _ (inside whole);
      headings = search keys_head;
    }
      where
        column_filled : (p o : Option ℕ) → IsPlaceOf (length own.columns) p → length (column count own.columns other.columns p o).cells ≡ count
        column_filled (Some p) o within = grind arith
        column_filled None (Some o) within = search length-replicate
        column_filled None None within = search length-replicate

    pub known_wide : (texts : List Text) → IsKnownTable texts own → IsSettled labels_value texts keys → IsKnownTable texts (widened own other keys places opposites)
    known_wide texts known given = record {
      whole = widened_whole known.whole;
      given = table_settled _ _ (columns_name_part _ _ known.given) (level_names_part _ _ known.given) (labels_part _ _ known.given)
          (grind (arith, settled_by, keys_seen))
          (columns_settled _ _ (all_wide _ _ _ (λ c. AreGiven texts c.cells) column_given places _ (inside known.whole)));
    }
      where
        missing_given : (n : ℕ) → AreGiven texts (replicate n Na)
        missing_given n = All-replicate (IsGiven texts) n Na tt

        column_given : (p o : Option ℕ) → IsPlaceOf (length own.columns) p → AreGiven texts (column count own.columns other.columns p o).cells
        column_given (Some p) o within = search (columns_given, columns_part)
        column_given None (Some o) within = search missing_given
        column_given None None within = search missing_given

pub wide_step : (count : ℕ) (own other : List (ColumnOf Cell)) (ps os : List (Option ℕ)) (k : ℕ) (p o : Option ℕ) (made made' : List CellBlock) (block : CellBlock) (c : CellColumn)
    → k < length ps → length os ≡ length ps → slice_get ps k ≡ Some p → slice_get os k ≡ Some o
    → map block_column made ≡ wide count own other (take k ps) (take k os) → made' ≡ made ++ block ∷ [] → block ≡ single_block (table_column c)
    → table_column c ≡ column count own other p o → map block_column made' ≡ wide count own other (take (k + 1) ps) (take (k + 1) os)
wide_step _ _ _ ps os k p o _ _ _ _ lt same at at' before pushed is here =
    let place = get_or_from_slice_get ps k p None at in
    let opposite = get_or_from_slice_get os k o None at' in
    grind (arith, map-append, add-one, one_more_column)

-- the columns of cells, one more of them
pub one_more_spread : (kind : Kind) (rows : ℕ) (cells : List Cell) (place : ℕ) (cell : Cell) (made made' : List CellBlock) (block : CellBlock) (c : CellColumn) → place < length cells → slice_get cells place ≡ Some cell
    → map block_column made ≡ map (repeated kind rows) (take place cells) → made' ≡ made ++ block ∷ [] → block ≡ single_block (table_column c)
    → c ≡ record { kind = kind; cells = replicate rows cell } → map block_column made' ≡ map (repeated kind rows) (take (place + 1) cells)
one_more_spread kind rows cells place _ _ _ _ _ lt at before pushed is made_is = grind (arith, get_or_from_slice_get, map-append, map_more (repeated kind rows) cells place Na lt)

-- with texts
spread_seen_columns : (texts : List Text) (kind : Kind) (rows : ℕ) (cells : List Cell) → columns_value texts (map (repeated kind rows) cells) ≡ map (λ c. column_of_value (spread kind rows c)) (map (datum texts) cells)
spread_seen_columns _ _ _ [] = refl
spread_seen_columns texts kind rows (c ∷ cs) = search (map-replicate, spread_seen_columns texts kind rows cs)

-- the kinds need no texts
takes_seen : (op : Binary) (texts : List Text) (f s : NumberedTable) → takes_each op (table_value texts f) (table_value texts s) ≡ takes_each op f s
takes_seen = grind (arith, list_all-map, column_seen)

-- a label is one of the rows' where some rows have it
any_rows : (p : List Label → Bool) (row : ℕ) (xs : List (List Label)) → are_some (rows_where p row xs) ≡ list_any p xs
any_rows p _ [] = refl
any_rows p row (x ∷ xs) = grind (arith, any_rows p (row + 1) xs)

-- one column more
module _ (kind : Kind) (labels keys : List (List Label)) (cs : List (ColumnOf Cell)) where
  module _ (place : ℕ) (rows : List ℕ) (lt : place < length keys) (lt' : place < length cs) (is : rows ≡ slice_index_or (map (rows_with labels) keys) place []) where
    abbrev fits : Bool
    fits = if are_some rows then same_kind (column_at cs place).kind kind else true

    abbrev fit_at : ℕ → Bool
    fit_at k = labels_fit same_numbers kind labels (drop k keys) (drop k cs)

    fits_from : fit_at place ≡ (fits && fit_at (place + 1))
    fits_from =
        let key = slice_index_or keys place [] in
        let found : rows ≡ rows_where (same_numbers key) 0 labels = grind (arith, get_or-map) in
        grind (arith, any_rows, drop-cons, add-one)

    pub one_more_fits : (whole : Bool) → fits ≡ true → fit_at place ≡ whole → fit_at (place + 1) ≡ whole
    one_more_fits _ fit before = cc fits_from

    pub one_unfit : (whole : Bool) → fits ≡ false → fit_at place ≡ whole → false ≡ whole
    one_unfit _ unfit before = cc fits_from

-- one column more, beside the first of another frame
module _ (keys others : List (List Label)) (cs columns : List (ColumnOf Cell)) (place : ℕ) (rows : List ℕ) (is : rows ≡ slice_index_or (map (rows_with others) keys) place []) (lt : place < length keys) where
  rows_here : rows ≡ rows_where (same_numbers (slice_index_or keys place [])) 0 others
  rows_here = grind (arith, get_or-map)

  pub firsts_inside : length others ≡ length columns → All (λ row. row < length columns) rows
  firsts_inside many = λ k d inside. let all = rw (← rows_here) at (rows_pass (same_numbers (slice_index_or keys place [])) others) in omega (arith, (all k d inside).0, many)

  abbrev first_fits : Bool
  first_fits = fits_first (column_at cs place).kind columns rows

  abbrev firsts_at : ℕ → Bool
  firsts_at k = firsts_fit same_numbers (drop k keys) (drop k cs) others columns

  module _ (lt' : place < length cs) where
    firsts_from : firsts_at place ≡ (first_fits && firsts_at (place + 1))
    firsts_from = grind (arith, rows_here, drop-cons, add-one)

    pub one_more_first : (whole : Bool) → first_fits ≡ true → firsts_at place ≡ whole → firsts_at (place + 1) ≡ whole
    one_more_first _ fit before = cc firsts_from

    pub no_first : (whole : Bool) → first_fits ≡ false → firsts_at place ≡ whole → false ≡ whole
    no_first _ unfit before = cc firsts_from

pub pairs_firsts : (f g : NumberedTable) → length f.headings ≡ length f.columns → length g.headings ≡ length g.columns
    → pairs_fit same_numbers (map heading_tuple f.headings) f.columns (map heading_tuple g.headings) g.columns
    ≡ (firsts_fit same_numbers (map heading_tuple f.headings) f.columns (map heading_tuple g.headings) g.columns && firsts_fit same_numbers (map heading_tuple g.headings) g.columns (map heading_tuple f.headings) f.columns)
pairs_firsts f g headed headed' = pairs_by_firsts same_numbers tuple_decides (map heading_tuple f.headings) f.columns (map heading_tuple g.headings) g.columns (grind (arith, length-map)) (grind (arith, length-map))

pub pairs_alike : (f g : NumberedTable) → length f.headings ≡ length f.columns → length g.headings ≡ length g.columns → of_one_kind f.columns g.columns ≡ true
    → pairs_fit same_numbers (map heading_tuple f.headings) f.columns (map heading_tuple g.headings) g.columns ≡ true
pairs_alike f g headed headed' alike = one_kind_fits same_numbers (map heading_tuple f.headings) f.columns (map heading_tuple g.headings) g.columns (grind (arith, length-map)) (grind (arith, length-map)) alike

-- with texts
any_seen : (texts : List Text) (key : List Label) (labels : List (List Label)) → AreDistinct texts → IsSettled tuple_value texts key → All (IsSettled tuple_value texts) labels → list_any (same_tuple (tuple_value texts key)) (labels_value texts labels) ≡ list_any (same_numbers key) labels
any_seen _ _ [] _ _ _ = refl
any_seen texts _ (t ∷ ts) distinct here all =
    λ j. tuple_by_number _ _ t distinct here (All-head (IsSettled tuple_value texts) t ts all) j || any_seen _ _ ts distinct here (All-tail (IsSettled tuple_value texts) t ts all) j

fit_seen : (texts : List Text) (kind : Kind) (labels keys : List (List Label)) (cs : List (ColumnOf Cell)) → AreDistinct texts → All (IsSettled tuple_value texts) labels → All (IsSettled tuple_value texts) keys
    → labels_fit same_tuple kind (labels_value texts labels) (labels_value texts keys) (columns_value texts cs) ≡ labels_fit same_numbers kind labels keys cs
fit_seen _ _ _ [] _ _ _ _ = refl
fit_seen _ _ _ (k ∷ ks) [] _ _ _ = refl
fit_seen texts kind _ (k ∷ ks) (c ∷ cs) distinct all each =
    λ j. (if any_seen _ k _ distinct (All-head (IsSettled tuple_value texts) k ks each) all j then same_kind c.kind kind else true)
    && fit_seen _ kind _ ks cs distinct all (All-tail (IsSettled tuple_value texts) k ks each) j

pairs_seen : (texts : List Text) (keys : List (List Label)) (cs : List (ColumnOf Cell)) (others : List (List Label)) (columns : List (ColumnOf Cell)) → AreDistinct texts → All (IsSettled tuple_value texts) keys → All (IsSettled tuple_value texts) others
    → pairs_fit same_tuple (labels_value texts keys) (columns_value texts cs) (labels_value texts others) (columns_value texts columns) ≡ pairs_fit same_numbers keys cs others columns
pairs_seen _ [] _ _ _ _ _ _ = refl
pairs_seen _ (k ∷ ks) [] _ _ _ _ _ = refl
pairs_seen texts (k ∷ ks) (c ∷ cs) others columns distinct all each =
    let here : All (IsSettled tuple_value texts) (k ∷ []) = All-cons (IsSettled tuple_value texts) k [] (All-head (IsSettled tuple_value texts) k ks all) (All-nil (IsSettled tuple_value texts)) in
    λ j. fit_seen texts c.kind (k ∷ []) others columns distinct here each j && pairs_seen texts ks cs others columns distinct (All-tail (IsSettled tuple_value texts) k ks all) each j

-- the labels of columns were given
keys_given : (texts : List Text) (t : NumberedTable) → IsSettled table_value texts t → All (IsSettled tuple_value texts) (map heading_tuple t.headings)
keys_given texts t given = tuples_settled texts _ (labels_given (labels_axis t) t refl texts given)

pub frames_seen : (op : Binary) (texts : List Text) (f g : NumberedTable) → AreDistinct texts → IsSettled table_value texts f → IsSettled table_value texts g
    → frames_fit op (table_value texts f) (table_value texts g)
    ≡ (list_all (takes_twice op) f.columns && list_all (takes_twice op) g.columns && pairs_fit same_numbers (map heading_tuple f.headings) f.columns (map heading_tuple g.headings) g.columns)
frames_seen op texts f g distinct given given' =
    let pairs = pairs_seen texts (map heading_tuple f.headings) f.columns (map heading_tuple g.headings) g.columns distinct (keys_given texts f given) (keys_given texts g given') in
    grind (arith, list_all-map, tuples_seen texts f.headings, tuples_seen texts g.headings)

module _ (texts : List Text) (f s : NumberedTable) where
  abbrev cells : List Cell
  cells = (column_at s.columns 0).cells

  abbrev kind : Kind
  kind = (column_at s.columns 0).kind

  abbrev v : Table
  v = table_value texts f

  abbrev w : Table
  w = table_value texts s

  abbrev labels : List (Option Label)
  labels = map tuple_heading s.labels

  pub spread_seen : table_value texts (spread_table f s) ≡ spread_series v w
  spread_seen = search (column_seen, length-map, spread_seen_columns, keys_seen)

  module _ (known : IsKnownTable texts f) (known' : IsKnownTable texts s) (frame : f.shape ≡ Frame) (series : s.shape ≡ Series) where
    headings_given : IsSettled headings_value texts labels
    headings_given = search (settled_by, keys_seen, labels_part)

    pub spread_known : HaveLevels 1 s.labels → IsKnownTable texts (spread_table f s)
    spread_known alike = record {
      whole = record {
        headed = grind (arith, length-map);
        filled = All-map (λ c. length c.cells ≡ length f.labels) (repeated kind (length f.labels)) cells (λ k d lt. length-replicate (length f.labels) _);
        headings = search keys_head;
      };
      given = table_settled _ _ (columns_name_part _ f known.given) (level_names_part _ f known.given) (labels_part _ f known.given) headings_given
          (columns_settled _ _
          (All-map (λ c. AreGiven texts c.cells) (repeated kind (length f.labels)) cells
          (λ k d lt. All-replicate (IsGiven texts) (length f.labels) _ (series_given _ s known'.whole series known'.given k d lt))));
    }

    module _ (distinct : AreDistinct texts) where
      -- unless a label of the Series stands twice, or one of the frame
      abbrev frame_after : Result Table FaultValue
      frame_after = unless_repeated (first_repeated v.headings) (limited_table (spread_series v w))

      series_first : spread_frame v w ≡ unless_repeated (first_repeated (headings_value texts labels)) frame_after
      series_first = cc (keys_seen texts s.labels)

      pub spread_refused : (fault : OpFault) → NamesRepeated fault (shared_heading labels []) → MakesBy table_value texts (Err fault) (spread_frame v w)
      spread_refused (Refused code) named = rw series_first (one_repeated texts labels distinct headings_given frame_after code named)
      spread_refused NoMemory _ = tt

      module _ (none : shared_heading labels [] ≡ None) where
        frame_next : spread_frame v w ≡ frame_after
        frame_next = series_first ∙ none_repeated texts labels distinct headings_given frame_after none

        pub frame_refused : (fault : OpFault) → NamesRepeated fault (shared_heading f.headings []) → MakesBy table_value texts (Err fault) (spread_frame v w)
        frame_refused (Refused code) named = rw frame_next (one_repeated texts f.headings distinct (headings_part _ f known.given) (limited_table (spread_series v w)) code named)
        frame_refused NoMemory _ = tt

      -- within the limits, and beyond them
      many : length (spread_series v w).columns ≡ length s.labels
      many = grind (arith, length-map, column_seen)

      module _ (none : shared_heading labels [] ≡ None) (none' : shared_heading f.headings [] ≡ None) where
        limited_by : (b : Bool) → within_limits (length f.labels) (length s.labels) ≡ b → spread_frame v w ≡ (if b then Ok (spread_series v w) else Err limit)
        limited_by _ within =
            let last = none_repeated texts f.headings distinct (headings_part _ f known.given) (limited_table (spread_series v w)) none' in
            grind (arith, length-map, many, frame_next none)

        pub spread_made : within_limits (length f.labels) (length s.labels) ≡ true → spread_frame v w ≡ Ok (table_value texts (spread_table f s))
        spread_made within = limited_by _ within ∙ ap Ok (sym spread_seen)

        pub spread_beyond : within_limits (length f.labels) (length s.labels) ≡ false → spread_frame v w ≡ Err limit
        spread_beyond within = limited_by _ within

  -- A frame and a Series of other labels than its columns.
  module _ (op : Binary) (left : Bool) where
    abbrev met : Result Entry FaultValue
    met = then_value (spread_frame v w) (joined_turned op left v)

    abbrev rest : Bool → Bool → Result Entry FaultValue
    rest fit compared = if fit then (if compared then Err (bad_value not_aligned) else met) else Err wrong_kind

    abbrev fit_meant : Bool
    fit_meant = labels_fit same_tuple (column_at w.columns 0).kind w.labels (column_labels v) v.columns

    fit_is : AreDistinct texts → IsSettled table_value texts f → IsSettled table_value texts s → fit_meant ≡ labels_fit same_numbers kind s.labels (map heading_tuple f.headings) f.columns
    fit_is distinct given given' =
        (λ i. labels_fit same_tuple (column_seen texts s.columns 0 i).kind w.labels (tuples_seen texts f.headings i) v.columns)
        ∙ fit_seen _ _ _ _ _ distinct (tuples_settled _ _ (labels_part _ s given')) (tuples_settled _ _ (labels_given _ f refl _ given))

    pub by_tests : (k l : Bool) → takes_each op f s ≡ k → nat_eq (length s.level_names) 1 ≡ l → across_unequal op left v w ≡ on_levels k l (rest fit_meant (compares op))
    by_tests = grind (arith, takes_seen, levels_one)

    pub by_labels : (fit compared : Bool) → takes_each op f s ≡ true → length s.level_names ≡ 1 → AreDistinct texts → IsSettled table_value texts f → IsSettled table_value texts s
        → fit ≡ labels_fit same_numbers kind s.labels (map heading_tuple f.headings) f.columns → compares op ≡ compared → across_unequal op left v w ≡ rest fit compared
    by_labels _ _ kinds one distinct given given' is compared = cc (by_tests true true kinds (grind (arith, nat_tests)), fit_is distinct given given')

    -- the frame and the Series in each of its rows pass the tests of frames of other columns
    pub spread_may : IsWhole f → IsWhole s → s.shape ≡ Series → HaveLevels 1 s.labels → takes_each op f s ≡ true → AreDistinct texts → IsSettled table_value texts f → IsSettled table_value texts s
        → labels_fit same_numbers kind s.labels (map heading_tuple f.headings) f.columns ≡ true → compares op ≡ false → MayWiden op v (spread_series v w)
    spread_may whole whole' series alike taken distinct given given' fit apart = record {
      fit = spread_fit op v w (grind (arith, length-map)) (grind (arith, length-map, column_seen)) (All-map (λ (t : List LabelValue). length t ≡ 1) (tuple_value texts) s.labels (λ k d lt. grind (arith, length-map)))
          (takes_seen op texts f s ∙ taken) (fit_is distinct given given' ∙ fit);
      levels = same_itself v.level_names;
      apart = apart;
    }

-- what a Series in each row of a frame comes to
spread_is : (f s t : Table) → spread_frame f s ≡ Ok t → t ≡ spread_series f s
spread_is = grind arith

may_turned : (op : Binary) (texts : List Text) (f g : NumberedTable) → IsWhole f → IsWhole g → MayWiden op (table_value texts f) (table_value texts g) → MayWiden op (table_value texts g) (table_value texts f)
may_turned op texts f g whole whole' may = record {
  fit = turned_fit op (table_value texts f) (table_value texts g) may.fit (grind (arith, length-map)) (grind (arith, length-map));
  levels = count_turned (table_value texts f).level_names (table_value texts g).level_names may.levels;
  apart = may.apart;
}

-- so the frame passes them with what was made, and that with the frame
module _ (op : Binary) (texts : List Text) (f s other made : NumberedTable) (is : other ≡ made) (are : spread_frame (table_value texts f) (table_value texts s) ≡ Ok (table_value texts made))
    (may : MayWiden op (table_value texts f) (spread_series (table_value texts f) (table_value texts s))) where
  pub may_right : MayWiden op (table_value texts f) (table_value texts other)
  may_right = subst (MayWiden op (table_value texts f)) (sym (ap (table_value texts) is ∙ spread_is (table_value texts f) (table_value texts s) (table_value texts made) are)) may

  pub may_left : IsWhole f → IsWhole made → MayWiden op (table_value texts other) (table_value texts f)
  may_left whole whole' = may_turned op texts f other whole (rw is whole') may_right
