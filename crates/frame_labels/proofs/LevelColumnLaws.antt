-- The labels of a level as the cells of a column, row by row.
use Rattle.{
  frame_parts.proofs.Common.{column_seen, ◌≡◌, ℕ, zero, suc, ◌+◌, ◌<◌, List, [], ◌∷◌, ◌++◌, map, drop, length, slice_index_or, slice_get, Some, append-nil, arith, append_assoc, Result, Ok, Err, drop-cons, map-append, length-range_with_len, get_or-range_with_len, get_or_from_slice_get, range_with_len, Label, Text, CellValue, FaultValue, CellBlock, CellColumn, AxisValue, ColumnOf, try_all, MakesBy, blocks_value, single_block, table_column, OpFault, drop-length as drop_all},
  std.specs.Option.{option_and_then},
  cell_core.specs.declared.cell.Label.TheVariants.{Na},
  frame_labels.specs.{Columns.{with_front}, LevelColumns.{cell_of, level_column, level_columns}},
}

-- one item more is made
pub front_next : {A B : Type 0} (f : A → Result B FaultValue) (made : List B) (x : A) (y : B) (xs : List A) (whole : Result (List B) FaultValue)
    → with_front made (try_all f (x ∷ xs)) ≡ whole → f x ≡ Ok y → with_front (made ++ y ∷ []) (try_all f xs) ≡ whole
front_next = grind (arith, append_assoc)

pub cell_is : (tuples : List (List Label)) (row level : ℕ) (l : Label) → option_and_then (λ tuple. slice_get tuple level) (slice_get tuples row) ≡ Some l
    → slice_get (map (λ tuple. cell_of (slice_index_or tuple level Na)) tuples) row ≡ Some (cell_of l)
cell_is [] _ _ l is = cc
cell_is (t ∷ ts) zero level l is = grind (arith, get_or_from_slice_get t level l Na is)
cell_is (t ∷ ts) (suc row) _ l is = cell_is ts _ _ l is

-- the levels from one on
level_at : (n level : ℕ) → level < n → drop level (range_with_len 0 n) ≡ level ∷ drop (level + 1) (range_with_len 0 n)
level_at n level lt = grind (arith, drop-cons (range_with_len 0 n) level 0, get_or-range_with_len, length-range_with_len)

abbrev pub columns_from : List Text → AxisValue → ℕ → List CellBlock → Result (List (ColumnOf CellValue)) FaultValue
columns_from texts axis level made = with_front (blocks_value texts made) (try_all (level_column texts axis) (drop level (range_with_len 0 (length axis.names))))

pub level_step : (texts : List Text) (axis : AxisValue) (level : ℕ) (made made' : List CellBlock) (new : CellColumn) → level < length axis.names
    → made' ≡ made ++ single_block (table_column new) ∷ [] → level_column texts axis level ≡ Ok (column_seen texts new)
    → columns_from texts axis level made ≡ level_columns texts axis → columns_from texts axis (level + 1) made' ≡ level_columns texts axis
level_step texts axis level made made' new lt more is before =
    grind (arith, map-append, level_at (length axis.names) level lt, front_next (level_column texts axis) (blocks_value texts made) level (column_seen texts new) (drop (level + 1) (range_with_len 0 (length axis.names))) (level_columns texts axis))

pub level_refused : (texts : List Text) (axis : AxisValue) (level : ℕ) (made : List CellBlock) (fault : OpFault) → level < length axis.names
    → MakesBy column_seen texts (Err fault) (level_column texts axis level) → columns_from texts axis level made ≡ level_columns texts axis
    → MakesBy blocks_value texts (Err fault) (level_columns texts axis)
level_refused = grind (arith, level_at)

pub levels_end : (texts : List Text) (axis : AxisValue) (level : ℕ) (made : List CellBlock) → level ≡ length axis.names
    → columns_from texts axis level made ≡ level_columns texts axis → level_columns texts axis ≡ Ok (blocks_value texts made)
levels_end _ axis level _ is before = grind (arith, append-nil, length-range_with_len, drop_all (range_with_len 0 (length axis.names)))
