-- Frames of files of JSON.
use Rattle.{frame_parts.proofs.Common.{◌≡◌, ◌∙◌, ap, sym, subst, ℕ, List, map, length, Ok, IfOk, All, All-map, get_or, get_or-map, length-map, arith, Result, Label, CellValue, ColumnOf, datum, Frame, Text, HaveLevels, nameless_axis, CellBlock, CellColumn, IsSettled, NumberedTable, table_value, tuple_value, label_datum, AxisValue, HeadingList, IsWhole, table, block_column, table_column, table_with, settled_by}, frame_make.{specs.Frames.{headings_of, column_block}, proofs.FileFrameLaws.{headings_seen, cells_seen, blocks_columns, headings_fit}}, csv_frames.specs.Views.{tuples_seen, columns_seen, column_seen}, meaning_json_calls.{specs.{json.{declared.Orient.{Orient}, JsonRead.{JsonValue, JsonRefusal, table_of_file}}, JsonCalls.{frame_of_json, frame_or_fault}}, proofs.ReadLaws.{IsRead, AreSingle, file_read}}, json_frames.specs.{Views.{json_seen}, declared.reading.JsonTable.{JsonTable}}, frame_json.specs.Frames.{PartsFit, frame_of}}

frame_seen : (texts : List Text) (read : JsonTable) → frame_of_json (json_seen texts read) ≡ table_value texts (frame_of read)
frame_seen = search (headings_seen, cells_seen)

pub frame_settled : (texts : List Text) (read : JsonTable) (made : NumberedTable) → IsSettled json_seen texts read → made ≡ frame_of read → IsSettled table_value texts made
frame_settled texts read _ settled is = rw is (settled_by json_seen table_value frame_of_json texts read (frame_of read) (λ texts. frame_seen texts read) settled)

pub frame_made : (texts : List Text) (read : JsonTable) (made : NumberedTable) (meant : Result JsonValue JsonRefusal) → meant ≡ Ok (json_seen texts read) → made ≡ frame_of read
    → frame_or_fault meant ≡ Ok (table (table_value texts made))
frame_made = grind (arith, frame_seen)

-- The parts of a frame fit one another

single_labels : (texts : List Text) (tuples : List (List Label)) → AreSingle (tuples_seen texts tuples) → HaveLevels 1 tuples
single_labels texts tuples single = λ k d lt.
    sym (length-map (get_or tuples k d) (label_datum texts)) ∙ ap length (sym (get_or-map (tuple_value texts) tuples k d))
    ∙ single k (tuple_value texts d) (omega (arith, lt, length-map tuples (tuple_value texts)))

filled_columns : (texts : List Text) (columns : List CellColumn) (count : ℕ) → All (λ (c : ColumnOf CellValue). length c.cells ≡ count) (columns_seen texts columns) → All (λ (c : CellColumn). length c.cells ≡ count) columns
filled_columns texts columns count filled = λ k d lt.
    sym (length-map (get_or columns k d).cells (datum texts)) ∙ ap (λ (c : ColumnOf CellValue). length c.cells) (sym (get_or-map (column_seen texts) columns k d))
    ∙ filled k (column_seen texts d) (omega (arith, lt, length-map columns (column_seen texts)))

pub parts_fit : (texts : List Text) (read : JsonTable) (orient : Orient) (bytes : List ℕ) → table_of_file orient bytes ≡ Ok (json_seen texts read) → PartsFit read
parts_fit texts read orient bytes is =
    let fit : IsRead (json_seen texts read) = subst (λ r. IfOk r IsRead) is (file_read orient bytes) in
    record {
      labels = single_labels texts read.labels fit.labels;
      rows = single_labels texts read.rows fit.rows;
      headed = sym (length-map read.labels (tuple_value texts)) ∙ fit.headed ∙ length-map read.columns (column_seen texts);
      filled = filled_columns texts read.columns (length read.rows) (subst (λ n. All (λ (c : ColumnOf CellValue). length c.cells ≡ n) (columns_seen texts read.columns)) (length-map read.rows (tuple_value texts)) fit.filled);
    }

pub frame_whole : (read : JsonTable) → PartsFit read → IsWhole (frame_of read)
frame_whole read fit =
    record {
      headed = length-map read.labels _ ∙ fit.headed ∙ sym (length-map read.columns table_column);
      filled = All-map (λ (c : ColumnOf _). length c.cells ≡ length read.rows) table_column read.columns fit.filled;
      headings = headings_fit read.labels fit.labels;
    }

pub frame_parts : (read : JsonTable) (axis : AxisValue) (headings : HeadingList) (blocks : List CellBlock) → axis ≡ nameless_axis read.rows 1 → headings ≡ headings_of read.labels → blocks ≡ map column_block read.columns
    → table_with Frame axis headings (map block_column blocks) ≡ frame_of read
frame_parts = grind (arith, blocks_columns)
