-- What setting cells leaves: a law of the columns.
use Rattle.std.specs.Prelude.{◌≡◌, ◌+◌, ◌*◌, ◌<◌, ℕ, List, length, slice_get, slice_index_or, Some}
use Rattle.meaning_tables.specs.Table.{ColumnOf, column_at}

-- The values stand row by row, one for each of these rows and columns. The value of this number is given for the cell of a
-- row and a column: the row stands at a place of the rows, and the column at one of the columns.
pub record IsGivenFor (rows columns : List ℕ) (column row number : ℕ) : Type 0 where
  pub i : ℕ
  pub j : ℕ
  pub row_there : slice_get rows i ≡ Some row
  pub column_there : slice_get columns j ≡ Some column
  pub is : number ≡ i * length columns + j

-- the value is the last one that is given for the cell
pub record IsLastFor (rows columns : List ℕ) (column row number : ℕ) : Type 0 where
  pub given : IsGivenFor rows columns column row number
  pub last : (later : ℕ) → number < later → IsGivenFor rows columns column row later → ⊥

abbrev pub cell_in : {C : Type 0} → List (ColumnOf C) → ℕ → ℕ → C → C
cell_in all column row none = slice_index_or (column_at all column).cells row none

-- each cell is the last value given for it, and else the old cell; kinds and numbers of cells are as they were
pub record AreSet {C : Type 0} (rows columns : List ℕ) (values : List C) (old new : List (ColumnOf C)) : Type 0 where
  pub as_many : length new ≡ length old
  pub kinds : (column : ℕ) → (column_at new column).kind ≡ (column_at old column).kind
  pub as_long : (column : ℕ) → length (column_at new column).cells ≡ length (column_at old column).cells
  pub set : (column row number : ℕ) (none : C) → IsLastFor rows columns column row number
      → cell_in new column row none ≡ slice_index_or values number none
  pub kept : (column row : ℕ) (none : C) → ((number : ℕ) → IsGivenFor rows columns column row number → ⊥)
      → cell_in new column row none ≡ cell_in old column row none
