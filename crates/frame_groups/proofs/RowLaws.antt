-- Tables that have the rows of the frame.
use Rattle.{frame_parts.proofs.Common.{arith, ◌≡◌, ℕ, Bool, false, List, [], ◌∷◌, ◌++◌, map, length, Option, None, Result, length-map, length-map-range_with_len, list_all, Label, WrongKind, Text, CellValue, AreGiven, FaultValue, then_value, CellBlock, CellColumn, IsSettled, ColumnOf, NumberedTable, Table, table_value, Entry, column_of_value, blocks_value, headings_value, Refuses, headings_part}, factorize.specs.group.{Rows.{GroupsValue}, Reductions.{group_places}}, frame_labels.{specs.method.Groups.{headings_of, same_rows, group_answer}, proofs.IndexingLaws.{headings_seen, headings_settled}}, frame_select.specs.Selected.{headings_at}, frame_groups.{specs.{declared.{columns.ColumnCall.{ColumnCall}, grouping.Grouping.{Grouping}, values.Values.{Values}}, Columns.{takes_at, made_at, rows_made, AreBlocks, row_call_of, IsByRow}, Grouped.{grouping_seen, values_seen}, Tables.{HasHeadings}}, proofs.ColumnLaws.{if_taken, each_is, boxed, one_more_block, one_more_value}}}
use Rattle.column_core.specs.Columns as kernel
use Rattle.frame_labels.specs.method.Groups as meant

-- the headings of columns, as they are seen
pub headings_are : (texts : List Text) (t : NumberedTable) (places : List ℕ) (labels : List (Option Label)) → labels ≡ headings_at t places → headings_of (table_value texts t) places ≡ headings_value texts labels
headings_are texts t places _ is = cc (headings_seen texts t places)

pub own_settled : (texts : List Text) (t : NumberedTable) (places : List ℕ) (labels : List (Option Label)) → labels ≡ headings_at t places → IsSettled table_value texts t → IsSettled headings_value texts labels
own_settled = grind (arith, headings_settled, headings_part)

pub labels_counted : (t : NumberedTable) (places : List ℕ) (labels : List (Option Label)) → labels ≡ headings_at t places → length labels ≡ length places
labels_counted = grind (arith, length-map)

-- what is meant, by whether the kinds are taken
module _ (texts : List Text) (t : NumberedTable) (g : Grouping) (v : Values) (call : ColumnCall) (by_row : IsByRow call) where
  abbrev T : Table
  T = table_value texts t

  abbrev G : GroupsValue
  G = meant.groups_of T (grouping_seen texts g)

  abbrev meant_rows : List (ColumnOf CellValue) → Result Entry FaultValue
  meant_rows columns = same_rows T v.single (headings_of T v.places) columns

  pub along_meant : (b : Bool) → list_all (takes_at call t) v.places ≡ b → group_answer T (grouping_seen texts g) (values_seen texts v) (row_call_of call) ≡ then_value (if_taken b (map (made_at call G T) v.places)) meant_rows
  along_meant b is = grind (arith, each_is texts call G t v.places b is)

  pub along_refused : list_all (takes_at call t) v.places ≡ false → Refuses texts WrongKind (group_answer T (grouping_seen texts g) (values_seen texts v) (row_call_of call))
  along_refused is = search along_meant

  abbrev pub along_table : Table
  along_table = record T { headings = headings_of T v.places; columns = map (made_at call G T) v.places }

  pub along_headings : (labels : List (Option Label)) (rows : ℕ) → labels ≡ headings_at t v.places → rows ≡ length t.labels → HasHeadings texts labels rows along_table
  along_headings _ rows is counted = record {
    headings = search headings_are;
    headed = grind (arith, length-map, labels_counted);
    rows = grind (arith, length-map);
  }

-- no block yet
pub no_blocks : (texts : List Text) (rows : ℕ) → AreBlocks texts rows []
no_blocks = grind arith

-- how many cells a call by rows makes
pub rows_by_row : (call : ColumnCall) (g : GroupsValue) → IsByRow call → rows_made call g ≡ length g.codes
rows_by_row = grind arith

-- as many blocks as places
pub blocks_placed : (texts : List Text) (f : ℕ → ColumnOf CellValue) (places : List ℕ) (before blocks : List CellBlock) → before ≡ [] → blocks_value texts blocks ≡ blocks_value texts before ++ map f places → blocks_value texts blocks ≡ map f places
blocks_placed _ f _ _ _ none is = cc

-- the places in groups
module _ (texts : List Text) (t : NumberedTable) (g : Grouping) where
  abbrev C : GroupsValue
  C = meant.groups_of (table_value texts t) (grouping_seen texts g)

  abbrev pub counts_table : Table
  counts_table = record (table_value texts t) { headings = None ∷ []; columns = column_of_value (group_places C) ∷ [] }

  module _ (groups : GroupsValue) (is : groups ≡ C) (c : CellColumn) (block : CellBlock) (before blocks : List CellBlock) (none : before ≡ []) (box : block ≡ boxed c) (pushed : blocks ≡ before ++ block ∷ []) (placed : kernel.column_value texts c ≡ group_places groups) where
    pub counts_boxed : AreGiven texts c.cells → AreBlocks texts (length t.labels) blocks
    counts_boxed = grind (arith, length-map, length-map-range_with_len, one_more_block, no_blocks)

    pub counts_seen : blocks_value texts blocks ≡ column_of_value (group_places C) ∷ []
    counts_seen = grind (arith, one_more_value)
