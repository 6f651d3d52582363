-- The text as which a scalar is printed.
use Rattle.std.specs.Prelude.{true, false, codes}
use Rattle.std.specs.Fmt.{signed_decimal}
use Rattle.meaning_call.specs.cells.Text.{Text}
use Rattle.meaning_call.specs.cells.Cell.{CellValue, na_cell, int_cell, truth_cell, text_cell}

abbrev pub cell_text : CellValue → Text
cell_text na_cell = codes "<NA>"
cell_text (int_cell z) = signed_decimal z
cell_text (truth_cell true) = codes "True"
cell_text (truth_cell false) = codes "False"
cell_text (text_cell t) = t
