-- The rows and cells of a group with one row more.
use Rattle.{
  column_core.proofs.cells.Common.{arith, ◌≡◌, ◌+◌, ◌<◌, sym, ℕ, true, false, List, [], ◌∷◌, ◌++◌, take, length, slice_index_or, Option, Some, None, false≢true, eq-eqb, eqb-true, map-append, Cell, Na, CellValue, na_cell, datum},
  factorize.{proofs.pick.RowLaws.{rows_more_yes, rows_more_no}, specs.group.{Rows.{is_in, rows_of_group, cells_of_group}, Reductions.{GroupReduction, group_cell}}},
  group_by.specs.Gathered.{TakesIn},
}

-- the group of a code
pub is_in_some : (group : ℕ) (code : Option ℕ) → is_in group code ≡ true → code ≡ Some group
is_in_some = grind (arith, false≢true, eqb-true)

module _ (codes : List (Option ℕ)) (row : ℕ) (inside : row < length codes) where
  pub rows_more : (group : ℕ) → slice_index_or codes row None ≡ Some group → rows_of_group group (take (row + 1) codes) ≡ rows_of_group group (take row codes) ++ row ∷ []
  rows_more = grind (arith, rows_more_yes, eq-eqb)

  -- no row more, where the row is in another group or in none
  pub rows_same : (group : ℕ) → is_in group (slice_index_or codes row None) ≡ false → rows_of_group group (take (row + 1) codes) ≡ rows_of_group group (take row codes)
  rows_same _ other = sym (search rows_more_no)

  module _ (cells : List CellValue) where
    pub cells_more : (group : ℕ) → slice_index_or codes row None ≡ Some group → cells_of_group group (take (row + 1) codes) cells ≡ cells_of_group group (take row codes) cells ++ slice_index_or cells row na_cell ∷ []
    cells_more = search (rows_more, map-append)

    pub cells_same : (group : ℕ) → is_in group (slice_index_or codes row None) ≡ false → cells_of_group group (take (row + 1) codes) cells ≡ cells_of_group group (take row codes) cells
    cells_same = search rows_same

    -- what is gathered of each group with the row
    pub taken_in : (op : GroupReduction) (texts : List (List ℕ)) (code : Option ℕ) (c : Cell) (before after : List Cell) → slice_index_or codes row None ≡ code → slice_index_or cells row na_cell ≡ datum texts c → TakesIn op texts code c before after
        → (g : ℕ) → datum texts (slice_index_or before g Na) ≡ group_cell op (cells_of_group g (take row codes) cells) → datum texts (slice_index_or after g Na) ≡ group_cell op (cells_of_group g (take (row + 1) codes) cells)
    taken_in = grind (arith, is_in_some, cells_more, cells_same)
