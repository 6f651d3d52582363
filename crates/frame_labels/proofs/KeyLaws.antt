-- The keys of rows by columns are the labels that the cells of the rows are.
use Rattle.{
  frame_parts.proofs.Common.{arith, ◌≡◌, refl, ℕ, ◌+◌, List, [], ◌∷◌, ◌++◌, map, take, length, slice_get, All, Some, length-map, map-append, take_more, All-push, get_or_from_slice_get, slice_get_within, range_with_len, Label, CellColumn, NumberedTable, column_at, label_of, table_column},
  factorize.specs.Keys.{row_key, column_keys},
  frame_select.specs.Across.{cell_across},
}

-- the cells of each row in the columns at these places, as labels
abbrev pub numbered_keys : NumberedTable → List ℕ → List (List Label)
numbered_keys t places = map (λ row. map label_of (map (cell_across t row) places)) (range_with_len 0 (length t.labels))

module _ (t : NumberedTable) where
  key_of_row : (places : List ℕ) (columns : List CellColumn) (row : ℕ) → map table_column columns ≡ map (column_at t.columns) places → row_key columns row ≡ map label_of (map (cell_across t row) places)
  key_of_row [] [] _ _ = refl
  key_of_row (p ∷ ps) (c ∷ cs) row are = cc (key_of_row ps cs row cc)
  key_of_row _ _ _ are = cc

  module _ (places : List ℕ) (columns : List CellColumn) (are : map table_column columns ≡ map (column_at t.columns) places) where
    pub keys_are : (count : ℕ) → count ≡ length t.labels → column_keys columns count ≡ numbered_keys t places
    keys_are = grind (arith, key_of_row)

    pub keys_counted : length columns ≡ length places
    keys_counted = grind (arith, length-map)

-- the columns at the first places
pub record AreFirst (t : NumberedTable) (places : List ℕ) (k : ℕ) (cs : List CellColumn) : Type 0 where
  pub columns : map table_column cs ≡ map (column_at t.columns) (take k places)
  pub rows : All (λ column. length column.cells ≡ length t.labels) cs

-- one column more
pub one_more_ref : (t : NumberedTable) (places : List ℕ) (k place : ℕ) (c : CellColumn) (cs cs' : List CellColumn) → slice_get places k ≡ Some place → column_at t.columns place ≡ table_column c → length c.cells ≡ length t.labels → cs' ≡ cs ++ c ∷ [] → AreFirst t places k cs
    → AreFirst t places (k + 1) cs'
one_more_ref t places k _ _ _ _ at is rows pushed before = rw pushed (record {
  columns = grind (arith, map-append, take_more places k 0 (slice_get_within _ k _ at), get_or_from_slice_get places k _ 0 at);
  rows = All-push (λ column. length column.cells ≡ length t.labels) _ _ before.rows rows;
})

-- the rows of columns that are borrowed
pub rows_alike : (made refs : List CellColumn) (n count : ℕ) → refs ≡ made → count ≡ n → All (λ column. length column.cells ≡ n) made → All (λ column. length column.cells ≡ count) refs
rows_alike = grind arith
