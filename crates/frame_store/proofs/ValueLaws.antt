-- Cells that are put into columns.
use Rattle.{
  meaning_tables.{proofs.cells.Common.{◌≡◌, ◌∙◌, ℕ, zero, suc, ◌+◌, ◌/◌, ◌%◌, ◌<◌, List, [], ◌∷◌, length, drop, map, refl, arith, Some, map-set, length-set, get_or_default, get_or_from_slice_get, drop-cons, slice_index_or, slice_index, slice_get, slice_set, Cell, Na}, specs.{Table.{ColumnOf, column_at, no_column}, Change.{with_cell_at, with_cell, with_values_from}}},
  column_core.specs.Blocks.{CellBlock},
  frame_store.{specs.Parts.{block_column, single_block, HaveRows}, proofs.PartLaws.{column_of_block}},
}

-- a block gets another cell
pub put_column_cell : (blocks : List CellBlock) (place row : ℕ) (cell : Cell) (block block' : CellBlock) → place < length blocks → block ≡ slice_index_or blocks place block
    → block' ≡ single_block (with_cell_at (block_column block) row cell) → map block_column (slice_set blocks place block') ≡ with_cell (map block_column blocks) place row cell
put_column_cell = grind (arith, map-set, column_of_block)

-- columns of the same kinds and lengths
pub record AreAlike (now first : List (ColumnOf Cell)) : Type 0 where
  pub kinds : (place : ℕ) → (column_at now place).kind ≡ (column_at first place).kind
  pub lengths : (place : ℕ) → length (column_at now place).cells ≡ length (column_at first place).cells

-- an item is replaced by one that f cannot tell from it
set_seen : {X Y : Type 0} (f : X → Y) (xs : List X) (i q : ℕ) (x d : X) → f x ≡ f (slice_index_or xs i d) → f (slice_index_or (slice_set xs i x) q d) ≡ f (slice_index_or xs q d)
set_seen f (y ∷ ys) zero zero x d h = h
set_seen f (y ∷ ys) (suc i) (suc q) x d h = set_seen f ys i q x d h
set_seen f [] i q x d h = refl
set_seen f (y ∷ ys) i q x d h = refl

pub alike_put : (now now' first : List (ColumnOf Cell)) (place row : ℕ) (cell : Cell) → AreAlike now first → now' ≡ with_cell now place row cell → AreAlike now' first
alike_put now _ first place row cell alike is = rw is (record {
  kinds = λ q. set_seen (λ c. c.kind) now place q (with_cell_at (column_at now place) row cell) no_column refl ∙ alike.kinds q;
  lengths = λ q. set_seen (λ c. length c.cells) now place q (with_cell_at (column_at now place) row cell) no_column (length-set (column_at now place).cells row cell) ∙ alike.lengths q;
})

-- one more value is put
pub one_more_put : (rows places : List ℕ) (values : List Cell) (k width place row : ℕ) (cell : Cell) (now now' whole : List (ColumnOf Cell)) → width ≡ length places
    → with_values_from k now rows places (drop k values) ≡ whole → k < length values
    → slice_get places (k % width) ≡ Some place → slice_get rows (k / width) ≡ Some row → slice_get values k ≡ Some cell
    → now' ≡ with_cell now place row cell → with_values_from (k + 1) now' rows places (drop (k + 1) values) ≡ whole
one_more_put rows places values k _ place row cell _ _ _ wide before lt at_place at_row at_value put =
    let next : k + 1 ≡ suc k = omega arith in
    let place_is : slice_index places (k % length places) ≡ place = grind (arith, get_or_from_slice_get) in
    let row_is : slice_index rows (k / length places) ≡ row = grind (arith, get_or_from_slice_get) in
    let cell_is : slice_index_or values k Na ≡ cell = search get_or_from_slice_get in
    grind (arith, drop-cons)

-- a row that is given stands within the table
pub row_inside : (first now : List (ColumnOf Cell)) (count place row : ℕ) → HaveRows count first → place < length first → AreAlike now first → row < count → row < length (column_at now place).cells
row_inside = grind arith

pub rows_kept : (first now : List (ColumnOf Cell)) (count : ℕ) → length now ≡ length first → HaveRows count first → AreAlike now first → HaveRows count now
rows_kept = grind (arith, get_or_default)
