-- Tables that are made of others.
use Rattle.{
  frame_parts.proofs.Common.{arith, ◌≡◌, true, List, map, length, All, Result, Ok, length-map, Cell, Text, CellValue, AreGiven, IsLonger, FaultValue, CellBlock, ColumnOf, NumberedTable, table_value, table, IsSettled, within_limits, with_columns, try_all, block_column, table_with, axis_of, HeadingList, columns_value, settled_later, seen_later, columns_name_part, level_names_part, labels_part, headings_part},
  frame_store.proofs.Settling.{with_columns_settled},
}
use Rattle.frame_labels.specs.method.Methods as meant

-- the same table under other columns, at a later dictionary
pub columns_later : (old new : List Text) (t : NumberedTable) (cs : List (ColumnOf Cell)) → IsLonger old new → IsSettled table_value old t
    → with_columns (table_value old t) (columns_value new cs) ≡ table_value new (record t { columns = cs })
columns_later = grind (arith, seen_later, columns_name_part, level_names_part, labels_part, headings_part)

pub columns_made : (f : ColumnOf CellValue → Result (ColumnOf CellValue) FaultValue) (old new : List Text) (t made : NumberedTable) (headings : HeadingList) (bs : List CellBlock)
    → IsLonger old new → IsSettled table_value old t → headings ≡ record { columns_name = t.columns_name; labels = t.headings } → made ≡ table_with t.shape (axis_of t) headings (map block_column bs)
    → within_limits (length t.labels) (length bs) ≡ true → try_all f (columns_value old t.columns) ≡ Ok (columns_value new (map block_column bs)) → All (λ c. AreGiven new c.cells) (map block_column bs)
    → (meant.each_column f (table_value old t) ≡ Ok (table (table_value new made))) × IsSettled table_value new made
columns_made f old new t _ _ bs longer settled same is within answer given = (
  grind (arith, length-map, columns_later),
  rw (is, same) (with_columns_settled _ t _ (settled_later table_value old new t longer settled) given),
)
