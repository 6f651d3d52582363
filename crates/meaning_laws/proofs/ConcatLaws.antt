-- `pd.concat` makes a valid table of valid ones.
use Rattle.{
  meaning_script.{proofs.{cells.Common.{◌≡◌, ◌∙◌, refl, sym, ap, ℕ, suc, ◌+◌, ◌<◌, List, [], ◌∷◌, length, map, length-append, arith, eqb-true, nat_tests, length-map, length-map-range_with_len, length-range_with_len, All-nil, All-cons, All-head, All-tail, All-filter, All-append, Bool, true, false, not, nat_lt, fold, slice_index_or, unwrap_or, Option, Some, None, IsSome, IfSome, Result, IfOk, All, list_all, flat_map, pointwise, as_long, Kind, Shape, Series, Frame, ColumnValue, FaultValue}, align.OrderLaws.{all_flat, all_distinct}, tables.KindLaws.{kind_is}}, specs.{join.Concat.{same_kind, united, are_equal, labels_under}, tables.{Table.{Table, column_at}, Valid.{IsValid, AreHeadings}, Value.{Entry, Given, NamedGiven, list_in}}, form.{Finish.{limited, same_heading, value_of_column}, Infix.{same_tuple, common_name}}, method.Concat.{Concatenation, tables_of, kept_names, level_names_of_all, columns_name_of_all, have_same_levels, labels_of_tables, RowAxis, rows_below, columns_below, column_under, column_or_missing, frame_column_below, is_series, table_below, finished_below, series_below, frame_of_columns, headings_of_tables, placed_column_below, unless_label_twice, frames_below, are_series, are_frames, numbered_from, headings_beside, rows_met, columns_beside, table_beside, beside, with_keys, along, concatenated, concat_result, concat_call}}},
  meaning_laws.{specs.Validity.{IsValidEntry, IsValidArgument, AreValidArguments}, proofs.{Words.{Has, AllOf, Keeps, Column, Name, Tuple, Cells, Levelled, IsFrame}, ListLaws.{both_true, all_pass, all_made, all_mapped, then_keeps, if_keeps, where_keeps, try_keeps, on_keeps, on_some_keeps, of_length_keeps}, ColumnLaws.{IsColumn, spread_column, Held, na_held}, TableLaws.{IsShaped, shaped, column_of_table, series_heading, frame_headings, one_column}, InfixLaws.{columns_on}, ReachLaws.{below_all}, GroupLaws.{AreLabels, frame_keeps}, SetLaws.{length_default, default_levels}, ArgumentLaws.{argument_valid}}},
}

abbrev AreShaped : List Table → Type 0
AreShaped ts = All IsShaped ts

-- the labels of all rows
abbrev all_labels : List Table → List Tuple
all_labels ts = flat_map (λ labels. labels) (labels_of_tables ts)

-- columns one below the other

abbrev AreColumns : (Table → Column) → List Table → Type 0
AreColumns f ts = All (λ t. IsColumn (length t.labels) (f t)) ts

module _ (f : Table → Column) where
  abbrev Fits : Table → Type 0
  Fits t = IsColumn (length t.labels) (f t)

  abbrev parts : List Table → List ColumnValue
  parts ts = map value_of_column (map f ts)

  abbrev cells : List Table → Cells
  cells ts = flat_map (λ part. part.cells) (parts ts)

  cells_count : (ts : List Table) → AreColumns f ts → length (cells ts) ≡ length (all_labels ts)
  cells_count [] h = refl
  cells_count (t ∷ ts) h = grind (arith, length-append, h 0 t, cells_count ts (All-tail Fits t ts h))

  cells_held : (kind : Kind) (ts : List Table) → AreColumns f ts → list_all (λ (other : ColumnValue). same_kind kind other.kind) (parts ts) ≡ true → All (Held kind) (cells ts)
  cells_held kind [] h alike = All-nil (Held kind)
  cells_held kind (t ∷ ts) h alike =
      let both = both_true _ _ alike in
      All-append (Held kind) (f t).cells (cells ts)
      (rw (kind_is kind (f t).kind both.0) (All-head Fits t ts h).held) (cells_held _ ts (All-tail Fits t ts h) both.1)

  below_held : (ts : List Table) → AreColumns f ts → IfOk (columns_below (map f ts)) (IsColumn (length (all_labels ts)))
  below_held [] h = grind arith
  below_held (t ∷ ts) h =
      let count = cells_count (t ∷ ts) h in
      let all = λ (e : list_all (λ other. same_kind (f t).kind other.kind) (parts ts) ≡ true). All-append (Held (f t).kind) (f t).cells (cells ts) (All-head Fits t ts h).held (cells_held _ ts (All-tail Fits t ts h) e) in
      grind arith

below_is : (a b : ℕ) → nat_lt a b ≡ true → a < b
below_is a b e = grind (arith, nat_tests)

or_else : {X : Type 0} (P : X → Type 0) (o : Option X) (x : X) → IfSome o P → P x → P (unwrap_or o x)
or_else P = grind arith

column_held : (h : Name) (kind : Kind) (t : Table) → IsShaped t → IsColumn (length t.labels) (column_or_missing h kind t)
column_held h kind t s = or_else (IsColumn (length t.labels)) (column_under h t) _ (grind (arith, below_is, column_of_table)) (spread_column _ _ _ (na_held kind))

frame_column_held : (ts : List Table) (h : Name) → AreShaped ts → IfOk (frame_column_below ts h) (IsColumn (length (all_labels ts)))
frame_column_held = search (below_held, column_held)

-- the names of levels

kept_count : (as' bs : List Name) → length (kept_names as' bs) ≡ length as'
kept_count [] bs = refl
kept_count (a ∷ as') bs = grind (arith, kept_count as')

fold_count : (names : List Name) (more : List (List Name)) → length (fold kept_names names more) ≡ length names
fold_count names [] = refl
fold_count names (m ∷ more) = fold_count (kept_names names m) more ∙ kept_count _ m

names_count : (t : Table) (ts : List Table) → length (level_names_of_all (t ∷ ts)) ≡ length t.level_names
names_count = search fold_count

-- Series have no name of columns
no_common : (names : List Name) → fold common_name None names ≡ None
no_common [] = refl
no_common (name ∷ names) = grind (arith, no_common names)

-- tables of so many levels
abbrev HaveLevels : ℕ → List Table → Type 0
HaveLevels n ts = All (λ t. Levelled n t.labels) ts

same_have : (t : Table) (ts : List Table) → AreShaped (t ∷ ts) → have_same_levels (t ∷ ts) ≡ true → HaveLevels (length t.level_names) (t ∷ ts)
same_have = grind (arith, all_pass, eqb-true)

module _ (n : ℕ) (ts : List Table) (h : HaveLevels n ts) where
  labels_have : All (All (Has n)) (labels_of_tables ts)
  labels_have = all_made (λ t. Levelled n t.labels) (All (Has n)) (λ t. t.labels) (λ t k. k) ts h

  all_have : Levelled n (all_labels ts)
  all_have = all_flat (Has n) _ (λ labels. labels) (λ labels k. k) (labels_of_tables ts) (labels_have)

-- the labels of the parts

under_count : (keys : Tuple) (ts : List Table) → length keys ≡ length ts → length (labels_under keys (labels_of_tables ts)) ≡ length (all_labels ts)
under_count [] [] e = refl
under_count (key ∷ keys) (t ∷ ts) e = search (length-map, length-append, under_count keys ts (omega (arith, e)))
under_count _ _ e = search

under_have : (n : ℕ) (keys : Tuple) (ts : List Table) → HaveLevels n ts → Levelled (suc n) (labels_under keys (labels_of_tables ts))
under_have n (key ∷ keys) (t ∷ ts) h =
    let first = all_made _ (Has (suc n)) (λ tuple. key ∷ tuple) (λ tuple k. ap suc k) t.labels (All-head (λ t. Levelled n t.labels) t ts h) in
    let rest = under_have n keys ts (All-tail (λ t. Levelled n t.labels) t ts h) in
    search All-append
under_have n _ _ h = grind arith

-- a label for each part
abbrev AreKeys : ℕ → Bool → Option Tuple → Type 0
AreKeys count renumbered keys = renumbered ≡ false → IfSome keys (λ ks. length ks ≡ count)

record IsAxis (rows : ℕ) (a : RowAxis) : Type 0 where
  count : length a.labels ≡ rows
  levels : All (Has (length a.names)) a.labels

axis_is : (t : Table) (ts : List Table) (renumbered : Bool) (keys : Option Tuple) → HaveLevels (length t.level_names) (t ∷ ts) → AreKeys (length (t ∷ ts)) renumbered keys
    → IsAxis (length (all_labels (t ∷ ts))) (rows_below renumbered keys (t ∷ ts))
axis_is t ts true keys = search (length_default, default_levels)
axis_is t ts false None = search (names_count, all_have)
axis_is t ts false (Some keys) = search (under_count, names_count, under_have)

-- one below the other

frame_is : (s : Shape) → not (is_series s) ≡ true → s ≡ Frame
frame_is = grind arith

abbrev AreOf : Shape → List Table → Type 0
AreOf shape ts = All (λ t. t.shape ≡ shape) ts

all_series : (ts : List Table) → are_series ts ≡ true → AreOf Series ts
all_series = grind (arith, all_pass)

all_frames : (ts : List Table) → are_frames ts ≡ true → AreOf Frame ts
all_frames = grind (arith, all_pass)

-- labels of columns

module _ {K : Type 0} (same : K → K → Bool) where
  united_all : (P : K → Type 0) (inner : Bool) (first : List K) (others : List (List K)) → All (All P) (first ∷ others) → All P (united same inner (first ∷ others))
  united_all P true first others h = All-filter _ P _ (All-head (All P) first others h)
  united_all P false first others h = search (all_distinct, all_flat)

long_parts : (hs : List Name) (ts : List Table) → list_all (pointwise same_heading hs) (headings_of_tables ts) ≡ true → All (λ u. length u.headings ≡ length hs) ts
long_parts hs [] e = All-nil (λ u. length u.headings ≡ length hs)
long_parts hs (u ∷ ts) e =
    let both = both_true _ _ e in
    All-cons (λ (u : Table). length u.headings ≡ length hs) u ts (sym (as_long same_heading hs u.headings both.0)) (long_parts hs ts both.1)

label_keeps : (again : Option Tuple) (rest : Result Entry FaultValue) → Keeps rest → Keeps (unless_label_twice again rest)
label_keeps = grind arith

module _ (t : Table) (ts : List Table) (s : AreShaped (t ∷ ts)) (c : Concatenation) where
  abbrev all : List Table
  all = t ∷ ts

  abbrev rows : ℕ
  rows = length (all_labels all)

  first : IsShaped t
  first = grind arith

  module _ (levels : HaveLevels (length t.level_names) all) (keys : AreKeys (length all) c.renumbered c.keys) where
    below_keeps : (shape : Shape) (headings : List Name) (columns : List Column) → AreHeadings shape (columns_name_of_all all) headings → length headings ≡ length columns → All (IsColumn rows) columns
        → Keeps (finished_below (table_below shape all c headings columns))
    below_keeps = grind (arith, axis_is, nat_tests)

    series_keep : AreOf Series all → Keeps (series_below all c)
    series_keep are =
        let nameless : columns_name_of_all all ≡ None = grind (arith, no_common) in
        then_keeps _ _ _ _
        (below_held (λ u. column_at u.columns 0) all (λ k d lt. let u = slice_index_or all k d in column_of_table u (s k d lt) 0 (omega (arith, one_column u (s k d lt) (are k d lt)))))
        (λ column held. below_keeps _ _ (column ∷ []) (series_heading _ _ _ refl nameless) refl (All-cons (IsColumn rows) column [] held (All-nil (IsColumn rows))))

    -- a column for each heading
    module _ {X : Type 0} (hs : List Name) (some : All IsSome hs) (f : X → Result Column FaultValue) (xs : List X) (size : length xs ≡ length hs) where
      columns_keep : (P : X → Type 0) → ((x : X) → P x → IfOk (f x) (IsColumn rows)) → All P xs → Keeps (frame_of_columns all c hs f xs)
      columns_keep P held inside =
          then_keeps (AllOf (IsColumn rows) (length xs)) _ _ _
          (try_keeps P _ f held xs inside)
          (λ columns made. below_keeps _ hs columns (frame_headings _ _ hs refl some) (sym size ∙ sym made.0) made.1)

    -- columns at a place that all parts have
    placed_held : (place : ℕ) → place < length t.headings → All (λ u. length u.headings ≡ length t.headings) ts → IfOk (placed_column_below all place) (IsColumn rows)
    placed_held place lt long =
        let same = All-cons (λ (u : Table). length u.headings ≡ length t.headings) t ts refl long in
        below_held (λ u. column_at u.columns place) all
        (λ k d within. let u = slice_index_or all k d in column_of_table u (s k d within) place (omega (arith, lt, same k d within, (s k d within).headed)))

    frames_keep : AreOf Frame all → Keeps (frames_below all c)
    frames_keep are =
        let labelled = all_made (λ u. IsShaped u × (IsFrame u)) _ (λ u. u.headings) (λ u both. both.0.headings.labelled both.1) all (λ k d lt. (s k d lt, are k d lt)) in
        let some = All-head (All IsSome) _ _ labelled in
        let hs = united same_heading c.inner (headings_of_tables all) in
        if_keeps IsValidEntry _ _ _
        (λ e. columns_keep t.headings some (placed_column_below all) _ (length-range_with_len 0 _) (λ place. place < length t.headings) (λ place lt. placed_held place lt (long_parts t.headings ts e)) (below_all (length t.headings)))
        (λ e. label_keeps _ _ (columns_keep hs (united_all same_heading IsSome c.inner _ _ labelled) (frame_column_below all) hs refl (λ h. Unit {0}) (λ h _. frame_column_held all h s) (λ k d lt. tt)))

-- side by side

numbered_count : (n : ℕ) (hs : List Name) → length (numbered_from n hs) ≡ length hs
numbered_count n [] = refl
numbered_count n (h ∷ hs) = grind (arith, numbered_count (n + 1) hs, numbered_count n hs)

numbered_some : (n : ℕ) (hs : List Name) → AreLabels (numbered_from n hs)
numbered_some n [] = All-nil IsSome
numbered_some n (h ∷ hs) = grind (arith, numbered_some (n + 1) hs, numbered_some n hs)

headings_count : (renumbered : Bool) (hs : List Name) → length (headings_beside renumbered hs) ≡ length hs
headings_count = grind (arith, length-map-range_with_len, numbered_count)

headings_some : (renumbered : Bool) (hs : List Name) → AreLabels (headings_beside renumbered hs)
headings_some true hs = search all_mapped
headings_some false hs = numbered_some 0 hs

met_count : (own labels : List Tuple) → length (rows_met own labels) ≡ length labels
met_count own labels = grind (arith, length-map-range_with_len, as_long, length-map)

module _ (labels : List Tuple) where
  beside_held : (t : Table) → IsShaped t → All (IsColumn (length labels)) (columns_beside labels t)
  beside_held t s = search (columns_on, met_count)

  beside_count : (ts : List Table) → AreShaped ts → length (flat_map (λ t. t.headings) ts) ≡ length (flat_map (columns_beside labels) ts)
  beside_count [] s = refl
  beside_count (t ∷ ts) s = grind (arith, length-append, length-map, (All-head IsShaped t ts s).headed, beside_count ts (All-tail IsShaped t ts s))

module _ (t : Table) (ts : List Table) where
  module _ (s : AreShaped (t ∷ ts)) (renumbered : Bool) where
    beside_keeps : (labels : List Tuple) → Levelled (length t.level_names) labels → Keeps (limited (table_beside (t ∷ ts) renumbered labels))
    beside_keeps labels has =
        let own : IsShaped t = grind arith in
        search (names_count, frame_keeps, headings_count, beside_count, all_flat, beside_held, headings_some)

  beside_all_keeps : (c : Concatenation) → AreShaped (t ∷ ts) → Keeps (beside (t ∷ ts) c)
  beside_all_keeps c s =
      let n = length t.level_names in
      if_keeps IsValidEntry (are_equal same_tuple (labels_of_tables (t ∷ ts))) _ _
      (λ equal. beside_keeps s c.renumbered t.labels (All-head IsShaped t ts s).levels)
      (λ other. where_keeps IsValidEntry (have_same_levels (t ∷ ts)) _ _
      (λ same. label_keeps _ _ (beside_keeps s c.renumbered _ (united_all same_tuple (Has n) c.inner _ _ (labels_have n (t ∷ ts) (same_have t ts s same))))))

-- along either axis

along_keeps : (across : Bool) (t : Table) (ts : List Table) (c : Concatenation) → AreShaped (t ∷ ts) → AreKeys (length (t ∷ ts)) c.renumbered c.keys → Keeps (along across (t ∷ ts) c)
along_keeps true t ts c s keys = beside_all_keeps t ts c s
along_keeps false t ts c s keys =
    let all = t ∷ ts in
    if_keeps IsValidEntry (are_series all) _ _
    (λ series. where_keeps IsValidEntry (have_same_levels all) _ _ (λ same. series_keep t ts s c (same_have t ts s same) keys (all_series all series)))
    (λ other. where_keeps IsValidEntry (are_frames all) _ _
    (λ frames. where_keeps IsValidEntry (have_same_levels all) _ _ (λ same. frames_keep t ts s c (same_have t ts s same) keys (all_frames all frames))))

with_keys_keep : (count : ℕ) (across renumbered : Bool) (keys : Option Tuple) (rest : Result Entry FaultValue) → (AreKeys count renumbered keys → Keeps rest) → Keeps (with_keys count across renumbered keys rest)
with_keys_keep = grind (arith, of_length_keeps)

concatenated_keeps : (across : Bool) (ts : List Table) (c : Concatenation) → AreShaped ts → Keeps (concatenated across ts c)
concatenated_keeps across [] c s = tt
concatenated_keeps across (t ∷ ts) c s = search (with_keys_keep, along_keeps)

list_valid : (a : Given) → IsValidArgument a → IfSome (list_in a) (λ parts. All IsValid (tables_of parts))
list_valid = grind arith

pub concat_result_keeps : (objects axis join renumbered keys : Given) → IsValidArgument objects → Keeps (concat_result (objects ∷ axis ∷ join ∷ renumbered ∷ keys ∷ []))
concat_result_keeps objects axis join renumbered keys h = search (on_some_keeps, list_valid, on_keeps, concatenated_keeps, shaped)

-- a call of `pd.concat`
pub concat_call_keeps : (gs : List NamedGiven) → AreValidArguments gs → Keeps (concat_call gs)
concat_call_keeps gs h = grind (arith, concat_result_keeps, argument_valid)
