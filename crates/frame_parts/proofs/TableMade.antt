-- A table of other columns under other headings.
use Rattle.{
  column_core.{proofs.cells.Common.{arith, ◌≡◌, ℕ, List, length, map, Result, Ok, Err, length-map, IsLonger, Text, CellValue, FaultValue, then_value}, specs.Blocks.{CellBlock}},
  frame_store.{specs.{tables.{Settled.{IsSettled}, Table.{ColumnOf, NumberedTable, table_value, heading_value}, Valid.{AreHeadings, IsWhole}, Value.{Entry}}, declared.fault.OpFault.{OpFault}, Parts.{HeadingList, block_column, table_with, axis_of}, Shown.{headings_value, Makes}}, proofs.Settling.{settled_later, seen_later, table_settled, with_columns_settled, level_names_part, labels_part, columns_part}},
  meaning_form.specs.Finish.{with_columns},
  frame_parts.specs.Makes.{MakesBy, blocks_value, AreColumns},
}
use Rattle.frame_store.specs.tables.Value as value

-- the table under other headings
abbrev pub under : NumberedTable → HeadingList → NumberedTable
under t headings = table_with t.shape (axis_of t) headings t.columns

pub under_settled : (texts : List Text) (t : NumberedTable) (h : HeadingList) → IsSettled table_value texts t → IsSettled heading_value texts h.columns_name → IsSettled headings_value texts h.labels
    → IsSettled table_value texts (under t h)
under_settled = search (table_settled, level_names_part, labels_part, columns_part)

-- the blocks are whole columns of the table under these headings
pub whole_under : (texts : List Text) (t : NumberedTable) (h : HeadingList) (blocks : List CellBlock) → IsWhole t → AreColumns texts (length t.labels) (length t.columns) blocks
    → length h.labels ≡ length t.headings → AreHeadings t.shape h.columns_name h.labels → IsWhole (table_with t.shape (axis_of t) h (map block_column blocks))
whole_under = grind (arith, length-map)

-- what is made of these columns is settled
pub made_is_settled : (old new : List Text) (t : NumberedTable) (h : HeadingList) (blocks : List CellBlock) (rows columns : ℕ) → IsLonger old new → IsSettled table_value old (under t h) → AreColumns new rows columns blocks
    → IsSettled table_value new (table_with t.shape (axis_of t) h (map block_column blocks))
made_is_settled old new t h blocks _ _ longer settled made = with_columns_settled new (under t h) _ (settled_later table_value old new _ longer settled) made.given

-- the table that is meant, of the columns that are meant
pub made_is_meant : (old new : List Text) (t : NumberedTable) (h : HeadingList) (blocks : List CellBlock) (meant : Result (List (ColumnOf CellValue)) FaultValue) → IsLonger old new → IsSettled table_value old (under t h)
    → meant ≡ Ok (blocks_value new blocks)
    → then_value meant (λ columns. Ok (value.table (with_columns (table_value old (under t h)) columns))) ≡ Ok (value.table (table_value new (table_with t.shape (axis_of t) h (map block_column blocks))))
made_is_meant old new t h blocks meant longer settled is = grind (arith, seen_later table_value old new (under t h) longer settled)

-- a refusal goes on
pub refused_on : {X Y : Type 0} (view : List Text → X → Y) (texts : List Text) (meant : Result Y FaultValue) (go : Y → Result Entry FaultValue) (made : Result X OpFault) (fault : OpFault)
    → made ≡ Err fault → MakesBy view texts made meant → Makes texts (Err fault) (then_value meant go)
refused_on = grind arith
