-- Frames of columns that were read.
use Rattle.{frame_parts.proofs.Common.{◌≡◌, ◌+◌, ◌<◌, refl, ℕ, List, [], ◌∷◌, ◌++◌, map, length, drop, get_or, slice_get, append_assoc, unwrap_or, Option, Some, Ok, All, arith, drop_more, length-map, length-map-range_with_len, All-map, slice_get-get_or, IsSome, Result, Label, Series, Frame, Text, AxisValue, HaveLevels, range_axis, CellBlock, CellColumn, IsSettled, NumberedTable, table_value, tuple_value, heading_value, AreHeadings, IsWhole, table, default_seen, HeadingList, IsSingle, block_column, table_column, table_with, headings_value, columns_value, settled_by}, meaning_method.specs.{Readers.{frame_of_columns, frame_or_fault}, csv.CsvRead.{CsvValue, CsvRefusal}}, csv_frames.specs.{Views.{tuples_seen, columns_seen, csv_seen, PartsFit}, declared.table.CsvTable.{CsvTable}}, frame_make.specs.Frames.{headings_of, column_block, frame_of}}

abbrev pub first_label : List Label → Option Label
first_label tuple = slice_get tuple 0

-- what is seen of the parts
first_seen : (texts : List Text) (tuple : List Label) → slice_get (tuple_value texts tuple) 0 ≡ heading_value texts (first_label tuple)
first_seen _ [] = refl
first_seen _ (l ∷ ls) = refl

pub headings_seen : (texts : List Text) (labels : List (List Label)) → map (λ label. slice_get label 0) (tuples_seen texts labels) ≡ headings_value texts (map first_label labels)
headings_seen _ [] = refl
headings_seen texts (l ∷ ls) = λ j. first_seen texts l j ∷ headings_seen texts ls j

pub cells_seen : (texts : List Text) (columns : List CellColumn) → columns_seen texts columns ≡ columns_value texts (map table_column columns)
cells_seen _ [] = refl
cells_seen texts (c ∷ cs) = search (cells_seen texts cs)

frame_seen : (texts : List Text) (read : CsvTable) → frame_of_columns (csv_seen texts read) ≡ table_value texts (frame_of read)
frame_seen = search (default_seen, headings_seen, cells_seen)

pub frame_settled : (texts : List Text) (read : CsvTable) (made : NumberedTable) → IsSettled csv_seen texts read → made ≡ frame_of read → IsSettled table_value texts made
frame_settled texts read _ settled is = rw is (settled_by csv_seen table_value frame_of_columns texts read (frame_of read) (λ texts. frame_seen texts read) settled)

pub frame_made : (texts : List Text) (read : CsvTable) (made : NumberedTable) (meant : Result CsvValue CsvRefusal) → meant ≡ Ok (csv_seen texts read) → made ≡ frame_of read
    → frame_or_fault meant ≡ Ok (table (table_value texts made))
frame_made = grind (arith, frame_seen)

-- labels as headings, one after the other
pub heading_step : (labels : List (List Label)) (place : ℕ) (tuple : List Label) (label : Label) (made made' whole : List (Option Label)) → place < length labels → slice_get labels place ≡ Some tuple → slice_get tuple 0 ≡ Some label
    → made' ≡ made ++ Some label ∷ [] → made ++ map first_label (drop place labels) ≡ whole → made' ++ map first_label (drop (place + 1) labels) ≡ whole
heading_step labels place tuple _ _ _ _ lt at first pushed before =
    let here : get_or labels place tuple ≡ tuple = grind (arith, unwrap_or, slice_get-get_or) in
    grind (arith, append_assoc, drop_more)

-- each block is one column
pub blocks_single : (columns : List CellColumn) (blocks : List CellBlock) → blocks ≡ map column_block columns → All IsSingle blocks
blocks_single columns _ is = rw is (All-map IsSingle column_block columns (λ k d lt. refl))

pub blocks_columns : (columns : List CellColumn) → map block_column (map column_block columns) ≡ map table_column columns
blocks_columns [] = refl
blocks_columns (c ∷ cs) = cc (blocks_columns cs)

pub frame_parts : (read : CsvTable) (axis : AxisValue) (headings : HeadingList) (blocks : List CellBlock) → axis ≡ range_axis read.rows → headings ≡ headings_of read.labels → blocks ≡ map column_block read.columns
    → table_with Frame axis headings (map block_column blocks) ≡ frame_of read
frame_parts = grind (arith, blocks_columns)

-- the parts of a frame fit one another
some_first : (tuple : List Label) → length tuple ≡ 1 → IsSome (first_label tuple)
some_first [] one = search
some_first (l ∷ ls) _ = refl

no_series : Frame ≡ Series → ⊥
no_series e = cc

pub headings_fit : (labels : List (List Label)) → HaveLevels 1 labels → AreHeadings Frame (headings_of labels).columns_name (headings_of labels).labels
headings_fit labels single =
    record {
      single = λ e. absurd (no_series e);
      nameless = λ e. absurd (no_series e);
      labelled = λ e. All-map IsSome first_label labels (search some_first);
    }

rows_count : (n : ℕ) → length (range_axis n).tuples ≡ n
rows_count = grind (arith, length-map, length-map-range_with_len)

pub frame_whole : (read : CsvTable) → HaveLevels 1 read.labels → PartsFit read → IsWhole (frame_of read)
frame_whole read single parts =
    record {
      headed = search length-map;
      filled = All-map (λ c. length c.cells ≡ length (range_axis read.rows).tuples) table_column read.columns
          (grind (arith, rows_count));
      headings = search headings_fit;
    }
