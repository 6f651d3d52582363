-- Columns that are made by groups.
use Rattle.{
  frame_parts.proofs.Common.{arith, ◌≡◌, ◌≢◌, refl, append_assoc, ℕ, ◌+◌, ◌<◌, Bool, true, false, List, [], ◌∷◌, ◌++◌, map, length, take, slice_index_or, Some, Result, Ok, Err, and_parts, length-map, map-append, take_more, length-map-range_with_len, All-cons, All-head, All-tail, All-push, get_or_from_slice_get, slice_get, IfOk, list_all, Text, CellValue, datum, AreGiven, ColumnValue, FaultValue, wrong_kind, CellBlock, CellColumn, IsSettled, ColumnOf, NumberedTable, Table, column_at, no_column, table_value, column_value, value_of_column, made_column, blocks_value, table_column, block_column, IsSingle, AreColumnsOf, columns_part, columns_given},
  factorize.specs.group.Rows.{GroupsValue},
  frame_labels.specs.method.Groups.{each_of},
  frame_select.proofs.AnswerLaws.{column_seen},
  group_by.specs.{Answers.{Answers}, declared.ops.GroupFault.{GroupFault, TheVariants.{KindMismatch}}},
  frame_groups.specs.{declared.columns.ColumnCall.{ColumnCall}, Columns.{made_of, takes, takes_at, column_made, made_at, rows_made, AreTaken, AreBlocks}},
}
use Rattle.column_core.specs.Columns as kernel

-- what is meant of one column
abbrev pub if_taken : {A : Type 0} → Bool → A → Result A FaultValue
if_taken true a = Ok a
if_taken false a = Err wrong_kind

one_meant : (call : ColumnCall) (g : GroupsValue) (c : ColumnOf CellValue) → made_column (made_of call g (value_of_column c)) ≡ if_taken (takes call c.kind) (column_made call g c)
one_meant = grind arith

-- and of all, by whether all are taken
abbrev takes_seen : ColumnCall → Table → ℕ → Bool
takes_seen call t place = takes call (column_at t.columns place).kind

each_meant : (call : ColumnCall) (g : GroupsValue) (t : Table) (places : List ℕ) → each_of t (made_of call g) places ≡ if_taken (list_all (takes_seen call t) places) (map (made_at call g t) places)
each_meant _ g t [] = refl
each_meant call g t (p ∷ ps) = grind (arith, one_meant call g (column_at t.columns p), each_meant call g t ps)

-- kinds don't depend on texts
all_seen : (texts : List Text) (call : ColumnCall) (t : NumberedTable) (places : List ℕ) → list_all (takes_seen call (table_value texts t)) places ≡ list_all (takes_at call t) places
all_seen _ _ t [] = refl
all_seen texts call t (p ∷ ps) = search (column_seen, all_seen texts call t ps)

pub each_is : (texts : List Text) (call : ColumnCall) (g : GroupsValue) (t : NumberedTable) (places : List ℕ) (b : Bool) → list_all (takes_at call t) places ≡ b
    → each_of (table_value texts t) (made_of call g) places ≡ if_taken b (map (made_at call g (table_value texts t)) places)
each_is texts call g t places b is = cc (each_meant call g (table_value texts t) places, all_seen texts call t places)

pub all_taken : (call : ColumnCall) (t : NumberedTable) (places : List ℕ) → AreColumnsOf t places → list_all (takes_at call t) places ≡ true → AreTaken call t places
all_taken _ t [] below is = grind arith
all_taken call t (p ∷ ps) below is =
    let both = and_parts _ _ is in
    All-cons (λ place. (place < length t.columns) × (takes_at call t place ≡ true)) p ps (All-head (λ place. place < length t.columns) p ps below, both.0) (all_taken _ t ps (All-tail (λ place. place < length t.columns) p ps below) both.1)

-- what a kernel made of a kind that is taken
pub never_mismatch : (texts : List Text) (call : ColumnCall) (g : GroupsValue) (a : ColumnValue) (r : Result CellColumn GroupFault) → takes call a.kind ≡ true → Answers texts r (made_of call g a) → r ≢ Err KindMismatch
never_mismatch = grind arith

-- how many cells it has
pub made_count : (call : ColumnCall) (g : GroupsValue) (c : ColumnOf CellValue) → length (column_made call g c).cells ≡ rows_made call g
made_count = grind (arith, length-map-range_with_len, length-map)

pub count_is : (texts : List Text) (call : ColumnCall) (g : GroupsValue) (a c : CellColumn) → column_value texts (table_column c) ≡ column_made call g (column_value texts (table_column a)) → length c.cells ≡ rows_made call g
count_is texts call g a c is = cc (length-map c.cells (datum texts), made_count call g (column_value texts (table_column a)))

-- one column more
abbrev pub boxed : CellColumn → CellBlock
boxed c = record { kind = c.kind; rows = length c.cells; columns = c.cells ∷ [] }

pub one_more_block : (texts : List Text) (rows : ℕ) (c : CellColumn) (block : CellBlock) (blocks blocks' : List CellBlock) → block ≡ boxed c → blocks' ≡ blocks ++ block ∷ [] → length c.cells ≡ rows → AreGiven texts c.cells → AreBlocks texts rows blocks → AreBlocks texts rows blocks'
one_more_block texts rows c _ blocks _ is pushed counted given before =
    rw (pushed, is) record {
      single = All-push IsSingle blocks (boxed c) before.single refl;
      filled = rw (map-append block_column blocks (boxed c ∷ [])) (All-push (λ d. length d.cells ≡ rows) (map block_column blocks) (table_column c) before.filled counted);
      given = rw (map-append block_column blocks (boxed c ∷ [])) (All-push (λ d. AreGiven texts d.cells) (map block_column blocks) (table_column c) before.given given);
    }

pub one_more_value : (texts : List Text) (c : CellColumn) (block : CellBlock) (blocks blocks' : List CellBlock) → block ≡ boxed c → blocks' ≡ blocks ++ block ∷ [] → blocks_value texts blocks' ≡ blocks_value texts blocks ++ column_value texts (table_column c) ∷ []
one_more_value = grind (arith, map-append)

-- the columns so far, with one more
pub one_more_column : {X : Type 0} (f : ℕ → X) (places : List ℕ) (k place : ℕ) (x : X) (before made made' : List X) → k < length places → slice_get places k ≡ Some place → x ≡ f place → made' ≡ made ++ x ∷ []
    → made ≡ before ++ map f (take k places) → made' ≡ before ++ map f (take (k + 1) places)
one_more_column f places k place x before _ _ lt at is pushed so_far = cc (pushed, so_far, is, append_assoc before (map f (take k places)) (f place ∷ []), get_or_from_slice_get places k place 0 at, take_more places k 0 lt, map-append f (take k places) (slice_index_or places k 0 ∷ []))

-- what was made of a kind that is taken
module _ (made : Result CellColumn GroupFault) where
  pub through : {E : Type 0} (P : CellColumn → Type 0) (r : Result CellColumn E) → IfOk r (λ c. made ≡ Ok c) → IfOk made P → IfOk r P
  through P = grind arith

  module _ {E : Type 0} (texts : List Text) (call : ColumnCall) (g : GroupsValue) (a : CellColumn) (e : takes call a.kind ≡ true) (answers : Answers texts made (made_of call g (kernel.column_value texts a))) where
    pub column_by : (r : Result CellColumn E) → IfOk r (λ c. made ≡ Ok c) → IfOk r (λ c. column_value texts (table_column c) ≡ column_made call g (column_value texts (table_column a)))
    column_by = grind arith

    pub count_by : (r : Result CellColumn E) → IfOk r (λ c. made ≡ Ok c) → IfOk r (λ c. length c.cells ≡ rows_made call g)
    count_by (Ok c) is = count_is texts _ g a c (grind arith)
    count_by (Err f) _ = tt

-- a column of the table
pub place_given : (texts : List Text) (t : NumberedTable) (place : ℕ) (c : CellColumn) → IsSettled table_value texts t → place < length t.columns → column_at t.columns place ≡ table_column c → AreGiven texts c.cells
place_given _ t place c settled lt here = rw here at (columns_given _ _ (columns_part _ t settled) place no_column lt)

pub place_seen : (texts : List Text) (call : ColumnCall) (g : GroupsValue) (t : NumberedTable) (place : ℕ) (a c : CellColumn) → column_at t.columns place ≡ table_column a → column_value texts (table_column c) ≡ column_made call g (column_value texts (table_column a))
    → column_value texts (table_column c) ≡ made_at call g (table_value texts t) place
place_seen = grind (arith, column_seen)

pub place_inside : (call : ColumnCall) (t : NumberedTable) (places : List ℕ) (k place : ℕ) → AreTaken call t places → k < length places → slice_get places k ≡ Some place → place < length t.columns
place_inside = grind (arith, get_or_from_slice_get)
