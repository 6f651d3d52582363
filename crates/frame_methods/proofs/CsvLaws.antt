-- The CSV text of an object is that of its table.
use Rattle.{
  frame_parts.proofs.Common.{◌≡◌, ◌<◌, Bool, true, false, List, length, length-map, nat_tests, Ok, CellValue, cell, slice_get, Some, arith, get_or_from_slice_get, TextId, Text, datum, text_cell, NumberedTable, table_value, IsWhole, HaveLevels, grid_of},
  frame_labels.specs.format.{Told.{told}, CsvWrite.{csv_text_of}},
  frame_labels.specs.method.Methods.{csv_answer},
  frame_format.proofs.WholeLaws.{told_whole},
}
use Rattle.cell_core.specs.declared.cell.Cell.TheVariants as cell

pub csv_seen : (texts later : List Text) (index : Bool) (t : NumberedTable) (id : TextId) (words : Text) → IsWhole t → HaveLevels (length t.level_names) t.labels → words ≡ csv_text_of index (told texts (grid_of t))
    → slice_get later id.0 ≡ Some words → datum later (cell.Text id) ≡ text_cell (csv_text_of index (table_value texts t))
csv_seen = grind (arith, get_or_from_slice_get, told_whole)

pub csv_made : (index : Bool) (texts : List Text) (t t' : NumberedTable) (c : CellValue) → t ≡ t' → (index ≡ false → 0 < length t'.columns) → c ≡ text_cell (csv_text_of index (table_value texts t')) → csv_answer index (table_value texts t) ≡ Ok (cell c)
csv_made true texts t _ c same some is = rw same (grind arith)
csv_made false texts t t' c same some is = rw same (grind (arith, nat_tests, length-map))
