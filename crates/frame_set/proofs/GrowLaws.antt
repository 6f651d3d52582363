-- Tables that get a row or a column.
use Rattle.{
  frame_parts.proofs.Common.{◌≡◌, ◌∙◌, ℕ, suc, ◌+◌, ◌<◌, ◌%◌, ◌/◌, List, [], ◌∷◌, ◌++◌, length, take, drop, map, refl, ap, arith, All, Option, Some, None, get_or_default, get_or_push, map_push, map_more, length-map, length-append, length-set, All-map, All-push, nat_tests, slice_get, slice_index, Cell, Na, Kind, Label, CellBlock, CellColumn, ColumnOf, NumberedTable, column_at, no_column, IsWhole, with_values_from, put_at, with_column, with_values, HaveRows, block_column, IsSingle},
  column_core.proofs.cells.Common.{with_cell as with_block_cell},
  std.proofs.lemmas.List.{set_at},
  frame_store.{specs.{tables.Change.{with_cell_at}, Parts.{AreHeld, IsHeld}}, proofs.ValueLaws.{one_more_put}},
  frame_set.specs.{declared.targets.Target.{Target}, Grown.{grown_table, missing_column, new_column, with_gap, with_row}, Values.{count_with, rows_after, columns_after, ArePlacesOf}},
}

-- one more column with a gap

pub gap_more : (columns : List (ColumnOf Cell)) (place : ℕ) (c copied pushed : CellColumn) (block : CellBlock) (made made' : List CellBlock) → place < length columns → column_at columns place ≡ record { kind = c.kind; cells = c.cells } → copied ≡ c
    → pushed ≡ record { kind = copied.kind; cells = copied.cells ++ Na ∷ [] } → block ≡ record { kind = pushed.kind; rows = length pushed.cells; columns = pushed.cells ∷ [] } → made' ≡ made ++ block ∷ []
    → map block_column made ≡ map with_gap (take place columns) → map block_column made' ≡ map with_gap (take (place + 1) columns)
gap_more columns place c _ _ block made _ lt = grind (arith, map_push block_column made block, map_more with_gap columns place no_column lt)

pub gap_single : (c copied pushed : CellColumn) (block : CellBlock) (made made' : List CellBlock) → All IsSingle made → copied ≡ c → pushed ≡ record { kind = copied.kind; cells = copied.cells ++ Na ∷ [] }
    → block ≡ record { kind = pushed.kind; rows = length pushed.cells; columns = pushed.cells ∷ [] } → made' ≡ made ++ block ∷ [] → All IsSingle made'
gap_single c _ _ _ made _ single same push is more = rw more (All-push IsSingle made _ single (grind arith))

-- the table with one more row
gap_rows : (n : ℕ) (columns : List (ColumnOf Cell)) → HaveRows n columns → HaveRows (n + 1) (map with_gap columns)
gap_rows n columns rows = All-map (λ c. length c.cells ≡ n + 1) with_gap columns (λ k d lt. grind (arith, length-append, rows k d lt))

pub row_is_whole : (t : NumberedTable) (label : Label) → IsWhole t → IsWhole (with_row t label)
row_is_whole t _ whole = search (length-map, length-append, gap_rows)

module _ (block block' : CellBlock) (at : ℕ) (cell : Cell) (single : IsSingle block) (is : block' ≡ record { kind = block.kind; rows = block.rows; columns = with_block_cell block.columns 0 at cell }) where
  put_is : block_column block' ≡ with_cell_at (block_column block) at cell
  put_is = grind arith

  pub put_keeps : IsSingle block'
  put_keeps = grind (arith, length-set)

  pub put_kind : (block_column block').kind ≡ (block_column block).kind
  put_kind = grind arith

pub put_more : (rows : List ℕ) (values : List Cell) (k at : ℕ) (cell : Cell) (block block' : CellBlock) (whole : List (ColumnOf Cell)) → IsSingle block → block' ≡ record { kind = block.kind; rows = block.rows; columns = with_block_cell block.columns 0 at cell }
    → k < length values → slice_get rows k ≡ Some at → slice_get values k ≡ Some cell → with_values_from k (block_column block ∷ []) rows (0 ∷ []) (drop k values) ≡ whole
    → with_values_from (k + 1) (block_column block' ∷ []) rows (0 ∷ []) (drop (k + 1) values) ≡ whole
put_more rows _ k at cell block block' whole single is lt at_row at_value before =
    let first : k % 1 ≡ 0 = omega arith in
    let same : k / 1 ≡ k = omega arith in
    one_more_put _ _ _ k 1 0 at cell (block_column block ∷ []) (block_column block' ∷ []) whole refl before lt (ap (slice_get (0 ∷ [])) first) (ap (slice_get rows) same ∙ at_row) at_value
    (search put_is)

-- a column behind the last
pub put_last : {X : Type 0} (xs : List X) (x : X) → put_at xs (length xs) x ≡ xs ++ x ∷ []
put_last = grind (arith, nat_tests)

values_last : (k : ℕ) (cs : List (ColumnOf Cell)) (m : ColumnOf Cell) (rows : List ℕ) (values : List Cell)
    → with_values_from k (cs ++ m ∷ []) rows (length cs ∷ []) values ≡ cs ++ column_at (with_values_from k (m ∷ []) rows (0 ∷ []) values) 0 ∷ []
values_last k _ m _ [] = refl
values_last k cs m rows (x ∷ xs) = grind (arith, get_or_push, set_at, values_last (suc k) cs (with_cell_at m (slice_index rows (k / 1)) x) rows xs)

pub column_filled : (t : NumberedTable) (label : Label) (kind : Kind) (rows : List ℕ) (values : List Cell) (c : ColumnOf Cell) → c ≡ new_column kind (length t.labels) rows values
    → with_column t (length t.columns) (Some label) c ≡ with_values (with_column t (length t.columns) (Some label) (missing_column kind (length t.labels))) rows (length t.columns ∷ []) values
column_filled = grind (arith, put_last, values_last)

-- the table that a target grows

pub grown_rows : (t : NumberedTable) (target : Target) (kind : Kind) → length (grown_table t target kind).labels ≡ rows_after t target
grown_rows = grind (arith, length-append)

pub grown_columns : (t : NumberedTable) (target : Target) (kind : Kind) → length (grown_table t target kind).columns ≡ columns_after t target
grown_columns = grind (arith, put_last, length-append, length-map)

-- places among those that there are then
pub reached_below : (count : ℕ) (places : List ℕ) (added : Option Label) → ArePlacesOf count places added → All (λ place. place < count_with count added) places
reached_below = grind arith

pub one_added : (count : ℕ) (places : List ℕ) (added : Option Label) (label : Label) → ArePlacesOf count places added → added ≡ Some label → places ≡ count ∷ []
one_added = grind arith

-- values that the new column holds

pub new_held : (t : NumberedTable) (target : Target) (kind : Kind) (label : Label) (values : List Cell) → target.rows.added ≡ None → target.columns.added ≡ Some label → target.columns.places ≡ length t.columns ∷ []
    → AreHeld (grown_table t target kind).columns target.columns.places values → All (IsHeld kind) values
new_held t _ _ _ values row column places held k d lt = rw (get_or_default values k d Na lt) (grind (arith, held k lt, put_last, get_or_push))
