-- The frame of rows that are spread over columns.
use Rattle.{frame_parts.proofs.Common.{arith, ◌≡◌, ◌∙◌, refl, ap, sym, subst, zero, suc, ℕ, ◌<◌, Bool, true, false, List, [], ◌∷◌, ◌++◌, map, length, slice_index_or, Option, Some, None, Result, Ok, Err, if◌then◌else◌, map-append, map-map, length-map, length-map-range_with_len, All, All-nil, All-cons, All-map, All-head, All-tail, IsSome, range_with_len, Na, Label, Frame, AreDistinct, Text, Cell, LabelValue, label_datum, FaultValue, bad_value, then_value, CellColumn, IsPlaceOf, AreGiven, HaveLevels, IsSettled, ColumnOf, NumberedTable, table_value, heading_value, tuple_value, column_value, IsWhole, Entry, table_column, headings_value, labels_value, columns_value, Makes, table_settled, settled_by, columns_settled, within_limits, limited, first_where, first_repeated, all_distinct, on_rows_seen, on_rows_given, tuple_by_number, tuples_settled, settled_tuples, tuple_less}, column_core.{specs.cells.{Column.{taken}, Fault.{entry}}}, std.proofs.lemmas.Slice.Zip.{length-zip}, multi_index.{specs.pick.Rows.{rows_where, only_row}, proofs.pick.InsideLaws.{rows_inside}}, frame_parts.{specs.align.Joins.{keys_in_order}, proofs.align.OrderLaws.{all_in_order}}, frame_select.specs.select.Select.{row_name}, reshape.{specs.{Answers.{Unstacks}, declared.fault.ReshapeFault.{ReshapeFault, TheVariants.{Duplicates, MixedKinds, TooLarge}}, row_keys.Keys.{label_in, same_tuple}, shapes.{Reshape.{SpreadOf, UnstackRefusal, duplicate_entry, too_large, entries, every_entry, spread_out, unless_twice, spread_within_limits, unstacked}, Unstacking.{place_at}}}, proofs.shapes.GridLaws.{length-even}}, frame_labels.{specs.method.Reshape.{met_labels, spread_frame, spread_result, spread_column}, proofs.TableLaws.{limited_within}}, frame_reshape.{specs.{Spreads.{spread_labels, places_of_column, spread_columns, IsSpreadOf, AreEntries}, Checks.{refusal}}, proofs.SpreadSeen.{spread_seen, answer_seen, unstacked_seen}}}
use Rattle.reshape.specs.declared.fault.ReshapeFault.TheVariants as fault
use Rattle.frame_parts.specs.form.Infix as text
use Rattle.frame_labels.specs.method.Reshape as meant

-- what is answered is what is spread, within the limits, or the labels that two rows have
kept : {A K : Type 0} (b : Bool) (t s : SpreadOf A) → ◌≡◌ {A = Result (SpreadOf A) (UnstackRefusal K)} (if b then Ok t else Err too_large) (Ok s) → (s ≡ t) × (b ≡ true)
kept true t s is = (cc, refl)
kept false t s is = cc

is_spread : {A K : Type 0} (found : Option K) (t s : SpreadOf A) → unless_twice found (spread_within_limits t) ≡ Ok s → (s ≡ t) × (within_limits (length s.rows) (length s.columns) ≡ true)
is_spread {A} {K} None t s is =
    let k = kept {K = K} (within_limits (length t.rows) (length t.columns)) t s is in
    (k.0, ap (λ u. within_limits (length u.rows) (length u.columns)) k.0 ∙ k.1)
is_spread (Some key) t s is = cc

not_twice : {A K : Type 0} (b : Bool) (t : SpreadOf A) (key : K) → ◌≡◌ {A = Result (SpreadOf A) (UnstackRefusal K)} (if b then Ok t else Err too_large) (Err (duplicate_entry key)) → ⊥
not_twice true t key is = cc
not_twice false t key is = cc

is_twice : {A K : Type 0} (found : Option K) (t : SpreadOf A) (key : K) → unless_twice found (spread_within_limits t) ≡ Err (duplicate_entry key) → found ≡ Some key
is_twice None t key is = absurd (not_twice (within_limits (length t.rows) (length t.columns)) t key is)
is_twice (Some other) t key is = cc

first_given : {X : Type 0} (P : X → Type 0) (p : X → Bool) (xs : List X) (x : X) → first_where p xs ≡ Some x → All P xs → P x
first_given P p [] x is all = cc
first_given P p (y ∷ ys) x is all = grind (arith, All-head P y ys all, first_given P p ys x, All-tail P y ys all)

entries_keep : {A : Type 0} (P : List A → Type 0) → ((a b : List A) → P a → P b → P (a ++ b)) → (rest labels : List (List A)) → All P rest → All P labels → All P (entries rest labels)
entries_keep P joined [] labels h k = All-nil P
entries_keep P joined (r ∷ rest) [] h k = All-nil P
entries_keep P joined (r ∷ rest) (l ∷ labels) h k =
    All-cons P (r ++ l) (entries rest labels) (joined r l (All-head P r rest h) (All-head P l labels k)) (entries_keep P joined rest labels (All-tail P r rest h) (All-tail P l labels k))

only_inside : (n : ℕ) (found : List ℕ) → All (λ row. row < n) found → (row : ℕ) → only_row found ≡ Some row → row < n
only_inside n [] all row is = cc
only_inside n (at ∷ []) all row is = grind (arith, all 0 at (omega arith))
only_inside n (at ∷ (other ∷ found)) all row is = cc

-- the rows that the cells of a column come from
some_inside : (n : ℕ) (place : Option ℕ) → ((row : ℕ) → place ≡ Some row → row < n) → IsPlaceOf n place
some_inside n None inside = tt
some_inside n (Some row) inside = inside row refl

place_inside : (n : ℕ) (places : List (Option ℕ)) (i : ℕ) → All (λ place. (row : ℕ) → place ≡ Some row → row < n) places → IsPlaceOf n (slice_index_or places i None)
place_inside n [] i all = tt
place_inside n (p ∷ ps) zero all = some_inside n p (all 0 p (omega arith))
place_inside n (p ∷ ps) (suc i) all = place_inside n ps i (All-tail (λ place. (row : ℕ) → place ≡ Some row → row < n) p ps all)

pub places_inside : (n levels : ℕ) (s : SpreadOf Label) (column : ℕ) → IsSpreadOf n levels s → All (IsPlaceOf n) (places_of_column s column)
places_inside n levels s column is = All-map (IsPlaceOf n) (λ row. place_at s.places (length s.columns) row column) (range_with_len 0 (length s.rows)) (λ k d lt. place_inside n s.places _ is.below)

-- the frame, with texts by number
abbrev pub spread_numbered : List (Option Label) → Option Label → CellColumn → SpreadOf Label → NumberedTable
spread_numbered names name c s =
    record {
      shape = Frame;
      columns_name = name;
      level_names = names;
      labels = s.rows;
      headings = spread_labels s;
      columns = spread_columns s c;
    }

column_counted : (s : SpreadOf Label) (c : CellColumn) (column : ℕ) → length (taken Na c.cells (places_of_column s column)) ≡ length s.rows
column_counted s c column = length-map (places_of_column s column) _ ∙ length-map-range_with_len _ 0 (length s.rows)

columns_long : (s : SpreadOf Label) (c : CellColumn) → All (λ column. length column.cells ≡ length s.rows) (spread_columns s c)
columns_long s c = All-map (λ column. length column.cells ≡ length s.rows) _ (range_with_len 0 (length s.columns)) (λ k d lt. column_counted s c _)

some_labels : (s : SpreadOf Label) → All IsSome (spread_labels s)
some_labels s = All-map IsSome (λ tuple. Some (label_in 0 tuple)) s.columns (λ k d lt. refl)

headed_alike : (s : SpreadOf Label) (c : CellColumn) → length (spread_labels s) ≡ length (spread_columns s c)
headed_alike s c = length-map s.columns _ ∙ sym (length-map-range_with_len _ 0 (length s.columns))

pub spread_whole : (names : List (Option Label)) (name : Option Label) (c : CellColumn) (s : SpreadOf Label) → IsWhole (spread_numbered names name c s)
spread_whole names name c s = record {
  headed = headed_alike s c;
  filled = columns_long s c;
  headings = record {
    single = λ e. cc;
    nameless = λ e. cc;
    labelled = λ e. some_labels s;
  };
}

-- and as it is seen
name_seen : (texts : List Text) (t : List Label) → length t ≡ 1 → row_name (tuple_value texts t) ≡ heading_value texts (Some (label_in 0 t))
name_seen texts [] one = cc
name_seen texts (l ∷ []) one = refl
name_seen texts (l ∷ (m ∷ ls)) one = grind arith

names_seen : (texts : List Text) (columns : List (List Label)) → HaveLevels 1 columns → map row_name (labels_value texts columns) ≡ headings_value texts (map (λ tuple. Some (label_in 0 tuple)) columns)
names_seen texts [] one = refl
names_seen texts (t ∷ ts) one = λ i.
    name_seen texts t (All-head (λ tuple. length tuple ≡ 1) t ts one) i ∷ names_seen texts ts (All-tail (λ tuple. length tuple ≡ 1) t ts one) i

module _ (texts : List Text) (s : SpreadOf Label) where
  abbrev pub seen_spread : SpreadOf LabelValue
  seen_spread = spread_seen (label_datum texts) s

  places_seen : (column : ℕ) → meant.places_of_column seen_spread column ≡ places_of_column s column
  places_seen column = λ i.
      map (λ row. place_at s.places (length-map s.columns (tuple_value texts) i) row column) (range_with_len 0 (length-map s.rows (tuple_value texts) i))

  module _ (c : CellColumn) where
    abbrev column_there : ℕ → ColumnOf Cell
    column_there column = record { kind = c.kind; cells = taken Na c.cells (places_of_column s column) }

    column_seen : (column : ℕ) → column_value texts (column_there column) ≡ spread_column (column_value texts (table_column c)) seen_spread column
    column_seen column = cc (on_rows_seen texts (places_of_column s column) (table_column c ∷ []), places_seen column)

    columns_seen : columns_value texts (spread_columns s c) ≡ map (spread_column (column_value texts (table_column c)) seen_spread) (range_with_len 0 (length seen_spread.columns))
    columns_seen =
        map-map (column_value texts) column_there (range_with_len 0 (length s.columns))
        ∙ (λ i. map (λ column. column_seen column i) (range_with_len 0 (sym (length-map s.columns (tuple_value texts)) i)))

    frame_seen : (names : List (Option Label)) (name : Option Label) → HaveLevels 1 s.columns
        → table_value texts (spread_numbered names name c s) ≡ spread_frame (headings_value texts names) (heading_value texts name) (column_value texts (table_column c)) seen_spread
    frame_seen names name one = λ i. record {
      shape = Frame;
      columns_name = heading_value texts name;
      level_names = headings_value texts names;
      labels = labels_value texts s.rows;
      headings = sym (names_seen texts s.columns one) i;
      columns = columns_seen i;
    }

    columns_given : (levels : ℕ) → IsSpreadOf (length c.cells) levels s → AreGiven texts c.cells → IsSettled columns_value texts (spread_columns s c)
    columns_given levels is given = columns_settled texts (spread_columns s c)
        (All-map (λ column. AreGiven texts column.cells) column_there (range_with_len 0 (length s.columns))
        (λ k d lt. on_rows_given texts (length c.cells) (places_of_column s _) (table_column c ∷ []) (λ j e inside. grind arith) (places_inside (length c.cells) levels s _ is) (λ j e inside. grind arith) 0 (column_there 0) (omega arith)))

module _ (texts : List Text) (rest labels : List (List Label)) (rows levels : ℕ) (are : AreEntries texts rows levels rest labels) where
  abbrev Given : List Label → Type 0
  Given = IsSettled tuple_value texts

  abbrev numbered : Result (SpreadOf Label) (UnstackRefusal (List Label))
  numbered = unstacked same_tuple (tuple_less texts) rest labels

  abbrev spread : SpreadOf Label
  spread = spread_out same_tuple (tuple_less texts) rest labels

  joined : (a b : List Label) → Given a → Given b → Given (a ++ b)
  joined a b here there = λ more. rw (map-append, map-append) (λ i. here more i ++ there more i)

  rest_given : All Given rest
  rest_given = tuples_settled texts rest are.given

  labels_given : All Given labels
  labels_given = tuples_settled texts labels are.given'

  keys_keep : (P : List Label → Type 0) (keys : List (List Label)) → All P keys → All P (keys_in_order same_tuple (tuple_less texts) keys)
  keys_keep P keys all = all_in_order P (tuple_less texts) _ (all_distinct P same_tuple keys all)

  entries_counted : length (entries rest labels) ≡ rows
  entries_counted = grind (arith, length-map, length-zip, are.count, are.count')

  entry_given : (key : List Label) → numbered ≡ Err (duplicate_entry key) → Given key
  entry_given key is = first_given Given _ (entries rest labels) key (is_twice (first_repeated same_tuple (entries rest labels)) spread key is) (entries_keep Given joined rest labels rest_given labels_given)

  module _ (s : SpreadOf Label) (is : numbered ≡ Ok s) where
    same : s ≡ spread
    same = (is_spread (first_repeated same_tuple (entries rest labels)) spread s is).0

    within : within_limits (length s.rows) (length s.columns) ≡ true
    within = (is_spread (first_repeated same_tuple (entries rest labels)) spread s is).1

    pub is_spread_of : IsSpreadOf rows levels s
    is_spread_of = subst (IsSpreadOf rows levels) (sym same) record {
      count = length-map (every_entry spread.rows spread.columns) _ ∙ length-even (λ key. map (λ label. key ++ label) spread.columns) (length spread.columns) (λ key. length-map spread.columns _) spread.rows;
      below = All-map (λ place. (row : ℕ) → place ≡ Some row → row < rows) (λ target. only_row (rows_where (same_tuple target) 0 (entries rest labels))) (every_entry spread.rows spread.columns)
          (λ k d lt. let found = rows_where (same_tuple (slice_index_or (every_entry spread.rows spread.columns) k d)) 0 (entries rest labels) in
          only_inside rows found (subst (λ n. All (λ row. row < n) found) entries_counted (rows_inside (same_tuple (slice_index_or (every_entry spread.rows spread.columns) k d)) (entries rest labels))));
      keys = keys_keep (λ t. length t ≡ levels) rest are.keys;
      labels = keys_keep (λ t. length t ≡ 1) labels are.labels;
    }

    rows_settled : IsSettled labels_value texts s.rows
    rows_settled = settled_tuples texts s.rows (rw same (keys_keep Given rest rest_given))

    headings_settled : IsSettled headings_value texts (spread_labels s)
    headings_settled = settled_by labels_value headings_value (map row_name) texts s.columns (spread_labels s) (λ ts. names_seen ts s.columns is_spread_of.labels) (settled_tuples texts s.columns (rw same (keys_keep Given labels labels_given)))

  module _ (distinct : AreDistinct texts) (names : List (Option Label)) (name : Option Label) (c : CellColumn) where
    abbrev framed : SpreadOf LabelValue → Result Entry FaultValue
    framed s = limited (spread_frame (headings_value texts names) (heading_value texts name) (column_value texts (table_column c)) s)

    abbrev pub spread_meant : Result Entry FaultValue
    spread_meant = spread_result (labels_value texts rest) (labels_value texts labels) (headings_value texts names) (heading_value texts name) (column_value texts (table_column c))

    answered : (r : Result (SpreadOf Label) (UnstackRefusal (List Label))) → numbered ≡ r → spread_meant ≡ then_value (met_labels (answer_seen (label_datum texts) r)) framed
    answered r is =
        ap (λ u. then_value (met_labels u) framed)
        (unstacked_seen (label_datum texts) Given joined same_tuple (tuple_less texts) text.same_tuple text.tuple_before (λ x y. tuple_by_number texts x y distinct) (λ x y f g. refl) rest labels rest_given labels_given
        ∙ ap (answer_seen (label_datum texts)) is)

    -- labels that two rows have, or too many
    pub spread_refused : (why : ReshapeFault) → Unstacks (Err why) numbered → Makes texts (Err (refusal why)) spread_meant
    spread_refused (Duplicates key) is = (answered _ is, λ more. ap (λ k. bad_value (entry k)) (entry_given key is more))
    spread_refused MixedKinds is = absurd is
    spread_refused TooLarge is = (answered _ is, λ more. refl)
    spread_refused fault.NoMemory is = tt

    module _ (s : SpreadOf Label) (is : numbered ≡ Ok s) where
      abbrev frame : NumberedTable
      frame = spread_numbered names name c s

      framed_is : spread_meant ≡ limited (table_value texts frame)
      framed_is = answered _ is ∙ ap limited (sym (frame_seen texts s c names name (is_spread_of s is).labels))

      -- the frame
      pub spread_made : rows ≡ length c.cells → IsSettled headings_value texts names → IsSettled heading_value texts name → AreGiven texts c.cells → (made : NumberedTable) → made ≡ frame → Makes texts (Ok made) spread_meant
      spread_made long named named' given made same =
          rw same (
            framed_is ∙ limited_within (table_value texts frame) _ _ (length-map s.rows _) (length-map (spread_columns s c) _ ∙ length-map-range_with_len _ 0 (length s.columns)) (within s is),
            table_settled texts frame named' named (rows_settled s is) (headings_settled s is) (columns_given texts s c levels (rw (← long) (is_spread_of s is)) given),
          )
