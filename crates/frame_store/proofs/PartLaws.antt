-- Blocks of one column, and columns that are cut from others.
use Rattle.{
  meaning_tables.{proofs.cells.Common.{◌≡◌, ℕ, ◌+◌, ◌<◌, List, [], ◌∷◌, ◌++◌, length, take, map, ap, arith, append_assoc, Some, All, take_more, map-append, get_or-map, length-map, All-push, get_or_from_slice_get, slice_index_or, slice_get, AreRowsBelow, Rows, Cell, Na}, specs.{Table.{ColumnOf, column_at}, Change.{strided_column, cut_columns}}},
  column_core.specs.{Blocks.{CellBlock}, Columns.{CellColumn}},
  frame_store.specs.Parts.{block_column, single_block, table_column, IsSingle, HaveRows},
}

-- a block of one column
pub single_made : (b : CellBlock) (c : ColumnOf Cell) → b ≡ single_block c → IsSingle b
single_made b c is = cc

pub column_made : (b : CellBlock) (c : ColumnOf Cell) → b ≡ single_block c → block_column b ≡ c
column_made b c is = ap block_column is

-- the column of the block at a place
pub column_of_block : (blocks : List CellBlock) (place : ℕ) (d : CellBlock) → place < length blocks → column_at (map block_column blocks) place ≡ block_column (slice_index_or blocks place d)
column_of_block = grind (arith, get_or-map)

-- one more column is cut
pub one_more_cut : (blocks : List CellBlock) (rows : Rows) (places : List ℕ) (k place : ℕ) (block copied : CellBlock) (made made' : List CellBlock)
    → map block_column made ≡ cut_columns Na (map block_column blocks) rows (take k places) → k < length places → slice_get places k ≡ Some place
    → place < length blocks → block ≡ slice_index_or blocks place block → copied ≡ single_block (strided_column Na rows (block_column block)) → made' ≡ made ++ copied ∷ []
    → map block_column made' ≡ cut_columns Na (map block_column blocks) rows (take (k + 1) places)
one_more_cut blocks rows places k _ _ copied made _ before inside at lt here copy pushed =
    let columns = map block_column blocks in
    let cut_at : ℕ → ColumnOf Cell = λ p. strided_column Na rows (column_at columns p) in
    let column : block_column copied ≡ cut_at (slice_index_or places k 0) = grind (arith, column_of_block, get_or_from_slice_get) in
    cc (map-append block_column made (copied ∷ []), take_more places k 0 inside, map-append cut_at (take k places) (slice_index_or places k 0 ∷ []))

-- one more column behind those of others
pub one_more_behind : (columns : List (ColumnOf Cell)) (place : ℕ) (c : CellColumn) (first blocks blocks' : List CellBlock) → place < length columns → column_at columns place ≡ table_column c → blocks' ≡ blocks ++ single_block (table_column c) ∷ []
    → map block_column blocks ≡ map block_column first ++ take place columns → map block_column blocks' ≡ map block_column first ++ take (place + 1) columns
one_more_behind = grind (arith, map-append, append_assoc, take_more)

-- each block has as many rows as the columns
pub block_rows : (blocks : List CellBlock) (place count : ℕ) (block : CellBlock) → HaveRows count (map block_column blocks) → place < length blocks → block ≡ slice_index_or blocks place block
    → length (block_column block).cells ≡ count
block_rows = grind (arith, length-map, column_of_block)

pub block_below : (blocks : List CellBlock) (rows : Rows) (place count : ℕ) (block : CellBlock) → AreRowsBelow rows count → HaveRows count (map block_column blocks) → place < length blocks → block ≡ slice_index_or blocks place block
    → AreRowsBelow rows (length (block_column block).cells)
block_below blocks _ place count block below filled lt here = rw (block_rows blocks place count block filled lt here) below

-- one more block of one column
pub singles_more : (made made' : List CellBlock) (copied : CellBlock) (c : ColumnOf Cell) → All IsSingle made → copied ≡ single_block c → made' ≡ made ++ copied ∷ [] → All IsSingle made'
singles_more made _ copied c single copy pushed = rw pushed (All-push IsSingle made copied single (single_made copied c copy))

-- a number of a list is below what all are below
pub number_inside : (xs : List ℕ) (limit j x : ℕ) → All (λ n. n < limit) xs → j < length xs → slice_get xs j ≡ Some x → x < limit
number_inside = grind (arith, get_or_from_slice_get)

-- the cells of a block's first column
pub first_rows : (blocks : List CellBlock) (place count : ℕ) (block : CellBlock) (cells : List Cell) → HaveRows count (map block_column blocks) → place < length blocks → block ≡ slice_index_or blocks place block
    → slice_get block.columns 0 ≡ Some cells → length cells ≡ count
first_rows blocks place count block cells filled lt here at = cc (get_or_from_slice_get block.columns 0 cells [] at, block_rows blocks place count block filled lt here)
