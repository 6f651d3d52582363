-- Tables whose parts fit, before their limits are tested.
use Rattle.{
  meaning_script.{proofs.cells.Common.{arith, ◌≡◌, ℕ, ◌<◌, ◌≤◌, List, [], ◌∷◌, length, map, refl, suc, All-nil, true, None, IsSome, IfOk, All, slice_index_or, Option, Some, IfSome, option_map, Result, Ok, Decides, Shape, Series, Frame, Int64, LabelValue, FaultValue, value_decides}, specs.{tables.{Table.{Table, column_at}, Valid.{AreHeadings, IsValid, within_limits}}, form.{Finish.{limited_table, limited, with_columns, same_heading, unless_repeated}, Select.{heading_at, place_of_label, found, first_column, first_columns, label_of_several, unless_several, argument_column, argument_columns}}, call.Binding.{same_label}}},
  meaning_laws.proofs.{Words.{Keeps, Column, Name, IsFrame, Below}, ColumnLaws.{IsColumn, Held}, ListLaws.{all_made, at_or, then_keeps, try_keeps}},
}

-- a table that is valid if it is within the limits
pub record IsShaped (t : Table) : Type 0 where
  pub some : 1 ≤ length t.level_names
  pub few : length t.level_names ≤ 4
  pub levels : All (λ tuple. length tuple ≡ length t.level_names) t.labels
  pub headed : length t.headings ≡ length t.columns
  pub columns : All (IsColumn (length t.labels)) t.columns
  pub headings : AreHeadings t.shape t.columns_name t.headings

module _ (t : Table) where
  pub shaped : IsValid t → IsShaped t
  shaped = grind arith

  module _ (s : IsShaped t) where
    pub valid : within_limits (length t.labels) (length t.columns) ≡ true → IsValid t
    valid = grind arith

    pub limited_table_keeps : IfOk (limited_table t) IsValid
    limited_table_keeps = grind arith

    pub limited_keeps : Keeps (limited t)
    limited_keeps = grind arith

    -- other columns in the places of a table's own
    pub with_columns_shaped : (columns : List Column) → length columns ≡ length t.columns → All (IsColumn (length t.labels)) columns → IsShaped (with_columns t columns)
    with_columns_shaped columns size h = search

    pub column_of_table : (place : ℕ) → place < length t.columns → IsColumn (length t.labels) (column_at t.columns place)
    column_of_table = grind arith

    -- cells of columns are held, also where there is no such column
    pub cells_held : (place : ℕ) → All (Held (column_at t.columns place).kind) (column_at t.columns place).cells
    cells_held place = at_or (λ c. All (Held c.kind) c.cells) _ _ _ (All-nil (Held Int64)) (λ k d lt. (s.columns k d lt).held)

-- the name of a Series
pub series_heading : (s : Shape) (name : Name) (h : Name) → s ≡ Series → name ≡ None → AreHeadings s name (h ∷ [])
series_heading = grind arith

-- some of the labels of a frame
pub some_labelled : (t : Table) → IsShaped t → IsFrame t → (places : List ℕ) → Below (length t.columns) places → All IsSome (map (heading_at t) places)
some_labelled t s is places below = all_made (λ place. place < length t.columns) IsSome (heading_at t) (λ place lt. s.headings.labelled is place None (omega (arith, lt, s.headed))) places below

-- the labels of a frame
pub frame_headings : (s : Shape) (name : Name) (hs : List Name) → s ≡ Frame → All IsSome hs → AreHeadings s name hs
frame_headings = grind arith

-- a Series has one column
pub one_column : (t : Table) → IsShaped t → t.shape ≡ Series → length t.columns ≡ 1
one_column = grind arith

-- labels
pub label_decides : (a b : LabelValue) → Decides (same_label a b) (a ≡ b)
label_decides a b = value_decides a b

-- the label of a heading
met : (l : LabelValue) (h : Name) → same_heading (Some l) h ≡ true → h ≡ Some l
met = grind (arith, label_decides)

-- unless a label stands again
pub unless_keeps : {A : Type 0} (P : A → Type 0) (again : Name) (rest : Result A FaultValue) → IfOk rest P → IfOk (unless_repeated again rest) P
unless_keeps P = grind arith

-- where a label stands
pub record IsPlace (hs : List Name) (l : LabelValue) (place : ℕ) : Type 0 where
  pub below : place < length hs
  pub here : slice_index_or hs place None ≡ Some l

later : (h : Name) (hs : List Name) (l : LabelValue) (o : Option ℕ) → IfSome o (IsPlace hs l) → IfSome (option_map suc o) (IsPlace (h ∷ hs) l)
later = grind arith

pub place_found : (hs : List Name) (l : LabelValue) → IfSome (place_of_label hs l) (IsPlace hs l)
place_found [] l = tt
place_found (h ∷ hs) l = grind (arith, met, later, place_found hs l)

pub found_within : (hs : List Name) (l : LabelValue) → IfOk (found l (place_of_label hs l)) (λ place. place < length hs)
found_within hs l =
    let found = place_found hs l in
    grind arith

module _ (t : Table) where
  pub first_columns_found : (ls : List LabelValue) → IfOk (first_columns t ls) (λ places. (length places ≡ length ls) × Below (length t.headings) places)
  first_columns_found ls = try_keeps (λ l. Unit {0}) (λ place. place < length t.headings) (first_column t) (λ l _. found_within t.headings l) ls (λ k d lt. tt)

  pub argument_columns_found : (ls : List LabelValue) → IfOk (argument_columns t ls) (λ places. (length places ≡ length ls) × Below (length t.headings) places)
  argument_columns_found ls =
      let are = λ (places : List ℕ). (length places ≡ length ls) × Below (length t.headings) places in
      then_keeps are are (first_columns t ls) (λ places. unless_several t ls (Ok places)) (first_columns_found ls) (λ places found. unless_keeps are (label_of_several t ls) (Ok places) found)

  pub argument_column_found : (l : LabelValue) → IfOk (argument_column t l) (λ place. place < length t.headings)
  argument_column_found l =
      let is = λ (place : ℕ). place < length t.headings in
      then_keeps is is (first_column t l) (λ place. unless_several t (l ∷ []) (Ok place)) (found_within t.headings l) (λ place below. unless_keeps is (label_of_several t (l ∷ [])) (Ok place) below)
