-- Columns that are made one by one.
use Rattle.{
  frame_parts.proofs.Common.{◌≡◌, refl, ℕ, ◌+◌, ◌<◌, List, [], ◌∷◌, ◌++◌, map, length, append_assoc, Result, Ok, Err, slice_index_or, arith, map-append, map_push, drop_more, All-push, Cell, Text, CellValue, IsLonger, AreGiven, FaultValue, CellColumn, CellBlock, IsSettled, ColumnOf, NumberedTable, column_value, column_at, no_column, table_value, try_all, block_column, single_block, IsSingle, table_column, columns_value, cells_value, settled_later, seen_later, cells_settled, cells_given, column_settled, columns_settled, columns_given, columns_part, longer_twice, ArrayFault},
  column_core.proofs.cells.Common.{length-append},
  frame_methods.specs.Columns.{IsFront, IsFault},
}

-- what was given stays so
pub given_later : (old new : List Text) (cells : List Cell) → IsLonger old new → AreGiven old cells → AreGiven new cells
given_later old new _ longer given = cells_given _ _ (settled_later cells_value old new _ longer (cells_settled _ _ given))

pub front_step : (f : ColumnOf CellValue → Result (ColumnOf CellValue) FaultValue) (first dict dict' : List Text) (columns : List (ColumnOf Cell)) (rows place : ℕ) (made made' : List CellBlock) (a new : CellColumn)
    → IsFront f first dict columns rows place made → place < length columns → column_at columns place ≡ table_column a → IsLonger dict dict' → AreGiven dict' new.cells → length new.cells ≡ rows
    → made' ≡ made ++ single_block (table_column new) ∷ [] → f (column_value first (table_column a)) ≡ Ok (column_value dict' (table_column new))
    → IsFront f first dict' columns rows (place + 1) made'
front_step f first dict dict' columns rows place made _ a new so_far lt at longer given full more is = rw more record {
  longer = longer_twice first dict dict' so_far.longer longer;
  given = rw (map_push block_column made (single_block (table_column new))) (All-push (λ c. AreGiven dict' c.cells) (map block_column made) _ (λ k d lt. given_later dict dict' (slice_index_or (map block_column made) k d).cells longer (so_far.given k d lt)) given);
  single = All-push IsSingle made (single_block (table_column new)) so_far.single refl;
  filled = rw (map_push block_column made (single_block (table_column new))) (All-push (λ c. length c.cells ≡ rows) (map block_column made) _ so_far.filled full);
  count = grind (arith, length-append);
  answer = grind (arith, map-append, seen_later columns_value dict dict' (map block_column made) longer (columns_settled dict (map block_column made) so_far.given), drop_more columns place no_column lt, append_assoc);
}

pub front_refused : (f : ColumnOf CellValue → Result (ColumnOf CellValue) FaultValue) (first dict : List Text) (columns : List (ColumnOf Cell)) (rows place : ℕ) (made : List CellBlock) (a : CellColumn) (fault : FaultValue)
    → IsFront f first dict columns rows place made → place < length columns → column_at columns place ≡ table_column a → f (column_value first (table_column a)) ≡ Err fault
    → try_all f (columns_value first columns) ≡ Err fault
front_refused f first dict columns rows place made a _ so_far lt at is = cc (drop_more columns place no_column lt, so_far.answer, is)

-- the column at a place was given
pub place_given : (dict : List Text) (t : NumberedTable) (place : ℕ) (a : CellColumn) → IsSettled table_value dict t → place < length t.columns → column_at t.columns place ≡ table_column a → AreGiven dict a.cells
place_given dict t place a settled lt is = grind (arith, columns_given _ _ (columns_part _ t settled) place no_column lt)

-- what is made of it at the later dictionary is what is made of it at the first one
pub same_answer : {A : Type 0} (answer : List CellValue → ColumnOf CellValue → A) (held : List Cell) (first dict : List Text) (a : CellColumn) → IsLonger first dict → AreGiven first held → AreGiven first a.cells
    → answer (cells_value first held) (column_value first (table_column a)) ≡ answer (cells_value dict held) (column_value dict (table_column a))
same_answer answer held first dict a longer own given = cc (seen_later cells_value first dict held longer (cells_settled first held own), seen_later column_value first dict (table_column a) longer (column_settled _ _ given))

-- a refused column is a refused list of columns
pub refused_columns : (fault : ArrayFault) (one : Result (ColumnOf CellValue) FaultValue) (all : Result (List (ColumnOf CellValue)) FaultValue)
    → ((e : FaultValue) → one ≡ Err e → all ≡ Err e) → IsFault fault one → IsFault fault all
refused_columns = grind arith
