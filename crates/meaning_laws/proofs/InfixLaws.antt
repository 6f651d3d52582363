-- Operators make valid tables of valid values.
use Rattle.{
  meaning_script.{proofs.{cells.Common.{◌≡◌, ◌∙◌, refl, ap, sym, subst, ℕ, suc, List, [], ◌∷◌, length, arith, map, length-map, All-head, All-tail, replicate, Bool, true, false, if◌then◌else◌, Option, Some, None, Result, Ok, Err, IfOk, All, IsSome, Decides, pointwise_decides, as_long, Shape, Series, Frame, CellValue, na_cell, Kind, gap_cell, taken, Binary, FaultValue, wrong_kind, bad_value, not_aligned, then_value}, align.InsideLaws.{IsRowOf, AreInside, joined_inside}}, specs.{align.Faults.{AlignRefusal, met_rows}, tables.{Table.{Table, column_at}, Valid.{IsValid, within_limits}, Value.{Entry, cell, table}}, form.{Finish.{same_heading, with_columns, column_labels, column_of_value}, Infix.{Meeting, met, infix_table, with_scalar, beside, across, turned, scalar_infix, on_levels, same_tuple, are_headings, same_count, has_one, compares, takes_each, labels_fit, common_name, common_names, first_heading, Joined, joined_rows, on_rows, with_joined, joined_infix, unequal_infix, rows_infix, series_infix, common_infix, wide_infix, joined_frames, unequal_frames, frame_infix, spread_frame, joined_turned, across_unequal, across_infix, table_infix, infix_result, inverted_column, inverted, sign_result, tuple_heading, column_or_missing, columns_or_missing, on_columns, spread, spread_series}}}},
  meaning_laws.{specs.Validity.{IsValidObject, IsValidEntry}, proofs.{Words.{Has, AllOf, Keeps, Column, Name, Tuple, Cells, IsFrame, IsSeries, Levelled}, ListLaws.{both_true, all_made, all_mapped, at_or, try_keeps}, ColumnLaws.{columns_meet, side, IsColumn, IsMeeting, met_keeps, scalar_meets, inverted_keeps, spread_column, Held, na_held}, TableLaws.{IsShaped, shaped, column_of_table, series_heading, frame_headings, one_column, label_decides}}},
}

-- tuples of equal labels are the same
pub tuple_decides : (a b : Tuple) → Decides (same_tuple a b) (a ≡ b)
tuple_decides a b = pointwise_decides label_decides a b

-- the labels of a frame's columns as tuples
pub labels_single : (t : Table) → Levelled 1 (column_labels t)
labels_single = search all_mapped

pub labels_many : (t : Table) → IsShaped t → length (column_labels t) ≡ length t.columns
labels_many t s = search length-map

-- and the headings that tuples are
heading_some : (tuple : Tuple) → length tuple ≡ 1 → IsSome (tuple_heading tuple)
heading_some = grind arith

-- a frame under joined labels
module _ (own other : Table) (keys : List Tuple) (places opposites : List (Option ℕ)) where
  pub length_wide : length places ≡ length keys → length opposites ≡ length keys → length (on_columns own other keys places opposites).columns ≡ length keys
  length_wide many many' = go _ _ (many' ∙ sym many) ∙ many
    where
      go : (ps os : List (Option ℕ)) → length os ≡ length ps → length (columns_or_missing na_cell (length own.labels) own.columns other.columns ps os) ≡ length ps
      go [] os same = refl
      go (p ∷ ps) [] same = search
      go (p ∷ ps) (o ∷ os) same = ap suc (go ps os (omega (arith, same)))

  pub wide_shaped : IsShaped own → own.shape ≡ Frame → Levelled 1 keys → length places ≡ length keys → length opposites ≡ length keys → All (IsRowOf (length own.columns)) places
      → IsShaped (on_columns own other keys places opposites)
  wide_shaped s is single many many' inside = search (length-map, length_wide, frame_headings, all_made, heading_some, go)
    where
      column : (p o : Option ℕ) → IsRowOf (length own.columns) p → IsColumn (length own.labels) (column_or_missing na_cell (length own.labels) own.columns other.columns p o)
      column (Some p) o within = column_of_table own s p within
      column None (Some o) within = search (spread_column, na_held)
      column None None within = search (spread_column, na_held)

      go : (ps os : List (Option ℕ)) → All (IsRowOf (length own.columns)) ps → All (IsColumn (length own.labels)) (columns_or_missing na_cell (length own.labels) own.columns other.columns ps os)
      go [] os all = grind arith
      go (p ∷ ps) [] all = grind arith
      go (p ∷ ps) (o ∷ os) all =
          let first = column p o (All-head (IsRowOf (length _)) p ps all) in
          let rest = go ps os (All-tail (IsRowOf (length _)) p ps all) in
          grind arith

-- a Series in each row of a frame
pub spread_shaped : (f s : Table) → IsShaped f → IsShaped s → IsFrame f → IsSeries s → length s.level_names ≡ 1 → IsShaped (spread_series f s)
spread_shaped f s h k is is' one =
    let held : All (Held (column_at s.columns 0).kind) (column_at s.columns 0).cells = grind (arith, column_of_table) in
    let columns = all_made _ (IsColumn (length f.labels)) (λ x. column_of_value (spread (column_at s.columns 0).kind (length f.labels) x)) (λ x held. spread_column _ _ x held) (column_at s.columns 0).cells held in
    let some : All IsSome (map tuple_heading s.labels) = all_made (Has 1) IsSome tuple_heading heading_some s.labels (grind arith) in
    grind (arith, length-map, frame_headings)

-- operators
-- as many meetings as columns, all of the table's rows
record AreMeetings (t : Table) (meetings : List Meeting) : Type 0 where
  count : length meetings ≡ length t.columns
  each : All (IsMeeting (length t.labels)) meetings

columns_keep : (t : Table) → IsShaped t → (rows : Result (List Column) FaultValue) (count : ℕ) → count ≡ length t.columns → within_limits (length t.labels) count ≡ true
    → IfOk rows (AllOf (IsColumn (length t.labels)) count)
    → Keeps (then_value rows (λ columns. Ok (table (with_columns t columns))))
columns_keep = grind arith

infix_keeps : (op : Binary) (t : Table) (meetings : List Meeting) → IsShaped t → AreMeetings t meetings → Keeps (infix_table op t meetings)
infix_keeps op t meetings s m =
    let made = try_keeps (IsMeeting (length t.labels)) (IsColumn (length t.labels)) (met op) (met_keeps op (length t.labels)) meetings m.each in
    grind (arith, columns_keep)

turned_meet : (left : Bool) (t : Table) (meetings : List Meeting) → AreMeetings t meetings → AreMeetings t (turned left meetings)
turned_meet false t meetings m = m
turned_meet true t meetings m = record {
  count = search length-map;
  each = all_made (IsMeeting (length t.labels)) (IsMeeting (length t.labels)) _ (λ x h. record { first = h.second; second = h.first }) meetings m.each;
}

scalar_keeps : (op : Binary) (left : Bool) (t : Table) (c : CellValue) → IsValid t → Keeps (scalar_infix op left t c)
scalar_keeps op left t c v =
    let s = shaped t v in
    let meets = all_made (IsColumn (length t.labels)) (IsMeeting (length t.labels)) (with_scalar c) (λ a h. scalar_meets c (length t.labels) a h) t.columns s.columns in
    grind (arith, infix_keeps, turned_meet, length-map)

length_beside : (as' bs : List Column) → length as' ≡ length bs → length (beside as' bs) ≡ length as'
length_beside [] bs e = grind arith
length_beside (a ∷ as') bs e = grind (arith, length_beside as')

beside_meet : (rows : ℕ) (as' bs : List Column) → All (IsColumn rows) as' → All (IsColumn rows) bs → All (IsMeeting rows) (beside as' bs)
beside_meet rows (a ∷ as') (b ∷ bs) h k = grind (arith, columns_meet rows a b, beside_meet rows as' bs (All-tail (IsColumn rows) a as' h) (All-tail (IsColumn rows) b bs k), h 0 a, k 0 b)
beside_meet rows _ _ h k = grind arith

length_across : (count : ℕ) (kind : Kind) (as' : List Column) (cells : Cells) → length as' ≡ length cells → length (across count kind as' cells) ≡ length as'
length_across count kind (a ∷ as') (c ∷ cs) e = ap suc (length_across _ _ as' cs (omega arith))
length_across count kind _ _ e = grind arith

across_meet : (rows : ℕ) (kind : Kind) (as' : List Column) (cells : Cells) → All (IsColumn rows) as' → All (Held kind) cells → All (IsMeeting rows) (across rows kind as' cells)
across_meet rows kind (a ∷ as') (c ∷ cs) h k = grind (arith, side rows a.kind a.cells, side rows kind (replicate rows c), spread_column kind rows c, across_meet rows kind as' cs (All-tail (IsColumn rows) a as' h) (All-tail (Held kind) c cs k), h 0 a, k 0 c)
across_meet rows kind _ _ h k = grind arith

one_level : (names : List Name) → has_one names ≡ true → length names ≡ 1
one_level = grind arith

levels_keep : (kinds equal : Bool) (rest : Result Entry FaultValue) → Keeps rest → Keeps (on_levels kinds equal rest)
levels_keep = grind arith

length_labels : (ls : List Tuple) (hs : List Name) → are_headings ls hs ≡ true → length ls ≡ length hs
length_labels [] [] e = refl
length_labels ((l ∷ []) ∷ ls) (h ∷ hs) e = ap suc (length_labels ls hs (both_true (same_heading (Some l) h) (are_headings ls hs) e).1)
length_labels ls hs e = cc

beside_meetings : (a b t : Table) → IsShaped a → IsShaped b → length a.labels ≡ length b.labels → length a.columns ≡ length b.columns → length t.labels ≡ length a.labels → length t.columns ≡ length a.columns
    → AreMeetings t (beside a.columns b.columns)
beside_meetings a b t s r rows count rows' count' = record {
  count = grind (arith, length_beside);
  each = rw rows' (beside_meet _ _ _ s.columns (subst (λ n. All (IsColumn n) b.columns) (sym rows) r.columns));
}

-- columns on other rows
pub gap_held : (kind : Kind) (cells : Cells) (gap : Option ℕ) → All (Held kind) cells → Held kind (gap_cell na_cell cells gap)
gap_held kind cells None h = na_held kind
gap_held kind cells (Some place) h = at_or (Held kind) _ _ _ (na_held kind) h

pub columns_on : (n count : ℕ) (rows : List (Option ℕ)) (cs : List Column) → length rows ≡ count → All (IsColumn n) cs → All (IsColumn count) (on_rows na_cell rows cs)
columns_on n count rows cs same h =
    all_made (IsColumn n) (IsColumn count) (λ c. record { kind = c.kind; cells = taken na_cell c.cells rows })
    (λ c k. record { filled = search length-map; held = search (all_mapped, gap_held) }) cs h

length_names : (as' bs : List Name) → length as' ≡ length bs → length (common_names as' bs) ≡ length as'
length_names (a ∷ as') (b ∷ bs) e = ap suc (length_names as' bs (omega arith))
length_names _ _ e = grind arith

length_count : {A B : Type 0} (as' : List A) (bs : List B) → same_count as' bs ≡ true → length as' ≡ length bs
length_count [] [] e = refl
length_count (a ∷ as') (b ∷ bs) e = ap suc (length_count as' bs e)
length_count _ _ e = cc

met_is : (r : Result Joined (AlignRefusal Tuple)) (rows : Joined) → met_rows r ≡ Ok rows → r ≡ Ok rows
met_is = grind arith

-- Two tables whose columns meet in order, and the frame of the answer.
module _ (op : Binary) (a b : Table) where
  module _ (t : Table) (s : IsShaped a) (r : IsShaped b) (frame : IsShaped t) (columns : length t.columns ≡ length a.columns) (columns' : length a.columns ≡ length b.columns) (levels : length a.level_names ≡ length b.level_names) where
    module _ (rows : Joined) (inside : AreInside (Has (length a.level_names)) (length a.labels) (length b.labels) rows) where
      abbrev left : List Column
      left = on_rows na_cell rows.left a.columns

      abbrev right : List Column
      right = on_rows na_cell rows.right b.columns

      -- the answer is that of a table on these rows
      abbrev on_these : Table
      on_these = with_columns (with_joined a b t rows) left

      size : length left ≡ length a.columns
      size = length-map a.columns _

      many : length left ≡ length right
      many = search (size, length-map)

      names : length (common_names a.level_names b.level_names) ≡ length a.level_names
      names = search length_names

      joined_shaped : IsShaped on_these
      joined_shaped = record {
        some = search names;
        few = search names;
        levels = grind (arith, names);
        headed = search size;
        columns = search columns_on;
        headings = frame.headings;
      }

      joined_keep : Keeps (joined_infix op a b t rows)
      joined_keep =
          infix_keeps op _ _ joined_shaped record {
            count = length_beside left right many;
            each = search (beside_meet, columns_on);
          }

    unequal_keep : Keeps (unequal_infix op a b t)
    unequal_keep = by _ _ refl
      where
        by : (c : Bool) (met : Result Joined FaultValue) → joined_rows a.labels b.labels ≡ met → Keeps (if c then Err (bad_value not_aligned) else then_value met (joined_infix op a b t))
        by true met e = tt
        by false (Err fault) e = tt
        by false (Ok rows) e =
            joined_keep _ (joined_inside (Has (length _)) _ _ _ _ s.levels
            (grind arith) rows (met_is _ _ e))

  rows_keep : (t : Table) → IsShaped a → IsShaped b → IsShaped t → length t.labels ≡ length a.labels → length t.columns ≡ length a.columns → length a.columns ≡ length b.columns → Keeps (rows_infix op a b t)
  rows_keep = grind (arith, infix_keeps, beside_meetings, as_long, unequal_keep, length_count)

  series_keep : IsShaped a → IsShaped b → IsSeries a → IsSeries b → Keeps (series_infix op a b)
  series_keep s r is is' = rows_keep t s r fits refl refl (one_column a s is ∙ sym (one_column b r is'))
    where
      t : Table
      t = record a { headings = common_name (first_heading a.headings) (first_heading b.headings) ∷ [] }

      fits : IsShaped t
      fits = grind (arith, series_heading)

common_keep : (op : Binary) (a b : Table) → IsShaped a → IsShaped b → IsFrame a → length a.columns ≡ length b.columns → Keeps (common_infix op a b)
common_keep op a b s r is columns = rows_keep op a b _ s r (grind (arith, frame_headings)) refl refl columns

wide_keep : (op : Binary) (a b : Table) → IsShaped a → IsShaped b → IsFrame a → IsFrame b → Keeps (joined_frames op a b)
wide_keep op a b s r is is' = by _ refl
  where
    by : (met : Result Joined FaultValue) → joined_rows (column_labels a) (column_labels b) ≡ met → Keeps (then_value met (wide_infix op a b))
    by (Err fault) e = tt
    by (Ok j) e =
        let joined = met_is _ j e in
        let inside = joined_inside (Has 1) _ _ _ _ (labels_single a) (labels_single b) j joined in
        let lefts = subst (λ n. All (IsRowOf n) j.left) (labels_many a s) inside.left in
        let rights = subst (λ n. All (IsRowOf n) j.right) (labels_many b r) inside.right in
        search (common_keep, wide_shaped, length_wide)

unequal_frames_keep : (op : Binary) (a b : Table) → IsShaped a → IsShaped b → IsFrame a → IsFrame b → Keeps (unequal_frames op a b)
unequal_frames_keep = grind (arith, wide_keep)

module _ (op : Binary) where
  frames_keep : (a b : Table) → IsShaped a → IsShaped b → IsFrame a → IsFrame b → Keeps (frame_infix op a b)
  frames_keep = grind (arith, common_keep, as_long, unequal_frames_keep)

  module _ (left : Bool) where
    turned_keep : (f g : Table) → IsShaped f → IsShaped g → IsFrame f → IsFrame g → Keeps (joined_turned op left f g)
    turned_keep = grind (arith, wide_keep)

    module _ (f s : Table) (h : IsShaped f) (k : IsShaped s) where
      spread_keep : IsFrame f → IsSeries s → length s.level_names ≡ 1 → Keeps (then_value (spread_frame f s) (joined_turned op left f))
      spread_keep = grind (arith, turned_keep, spread_shaped)

      across_unequal_keep : IsFrame f → IsSeries s → Keeps (across_unequal op left f s)
      across_unequal_keep is is' = by (takes_each op f s) (has_one s.level_names) refl (labels_fit same_tuple (column_at s.columns 0).kind s.labels (column_labels f) f.columns) (compares op)
        where
          by : (kinds one : Bool) → has_one s.level_names ≡ one → (fit compared : Bool)
              → Keeps (on_levels kinds one (if fit then (if compared then Err (bad_value not_aligned) else then_value (spread_frame f s) (joined_turned op left f)) else Err wrong_kind))
          by false one e fit compared = tt
          by true false e fit compared = tt
          by true true e false compared = tt
          by true true e true true = tt
          by true true e true false = spread_keep is is' (one_level s.level_names e)

      across_keep : IsFrame f → IsSeries s → Keeps (across_infix op left f s)
      across_keep is' is =
          let series : IsColumn (length s.labels) (column_at s.columns 0) = column_of_table s k 0 (grind (arith, one_column)) in
          let met = across_meet (length f.labels) (column_at s.columns 0).kind f.columns (column_at s.columns 0).cells h.columns series.held in
          grind (arith, levels_keep, infix_keeps, turned_meet, length_across, length_labels, across_unequal_keep)

  tables_keep : (p q : Shape) (a b : Table) → IsShaped a → IsShaped b → a.shape ≡ p → b.shape ≡ q → Keeps (table_infix op p q a b)
  tables_keep Series Series a b s r is is' = series_keep op a b s r is is'
  tables_keep Frame Frame a b s r is is' = frames_keep a b s r is is'
  tables_keep _ _ a b s r is is' = search across_keep

  -- an operator on two values
  pub infix_result_keeps : (v w : Entry) → IsValidObject v → IsValidObject w → IfOk (infix_result op v w) IsValidEntry
  infix_result_keeps (cell a) (cell b) h k = tt
  infix_result_keeps (cell a) (table t) h k = scalar_keeps op true t a k
  infix_result_keeps (table t) (cell b) h k = scalar_keeps op false t b h
  infix_result_keeps (table a) (table b) h k = search (tables_keep, shaped)

inverted_table : (t : Table) → IsValid t → Keeps (inverted (table t))
inverted_table t v =
    let s = shaped t v in
    let made = try_keeps (IsColumn (length t.labels)) (IsColumn (length t.labels)) inverted_column (inverted_keeps (length t.labels)) t.columns s.columns in
    grind (arith, columns_keep)

-- a sign before a value
pub sign_result_keeps : (minus : Bool) (v : Entry) → IsValidObject v → IfOk (sign_result minus v) IsValidEntry
sign_result_keeps true (cell c) h = tt
sign_result_keeps true (table t) h = search scalar_keeps
sign_result_keeps false (cell c) h = tt
sign_result_keeps false (table t) h = inverted_table t h
