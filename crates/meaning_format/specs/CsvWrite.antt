-- Tables as CSV text.
use Rattle.std.specs.Prelude.{Bool, true, false, List, [], ◌∷◌, ◌++◌, map, codes, Option, Some, None, if◌then◌else◌}
use Rattle.std.specs.Fmt.{signed_decimal}
use Rattle.std.specs.List.{flat_map}
use Rattle.csv.specs.Writing.{row_text, default_writer}
use Rattle.meaning_tables.specs.cells.Text.{Text}
use Rattle.meaning_tables.specs.cells.Cell.{CellValue, na_cell, int_cell, truth_cell, text_cell, LabelValue, truth, int, text, na}
use Rattle.meaning_tables.specs.Table.{Table, RowOf, rows_of}

-- Fields: nothing for what is missing

abbrev pub truth_field : Bool → Text
truth_field true = codes "True"
truth_field false = codes "False"

abbrev pub cell_field : CellValue → Text
cell_field na_cell = []
cell_field (int_cell z) = signed_decimal z
cell_field (truth_cell b) = truth_field b
cell_field (text_cell t) = t

abbrev pub label_field : LabelValue → Text
label_field na = []
label_field (int z) = signed_decimal z
label_field (truth b) = truth_field b
label_field (text t) = t

abbrev pub name_field : Option LabelValue → Text
name_field None = []
name_field (Some l) = label_field l

-- a Series without a name has the label 0
abbrev pub heading_field : Option LabelValue → Text
heading_field None = codes "0"
heading_field (Some l) = label_field l

-- Records

-- the fields side by side with commas between them, and a line feed. A field is in quotes where it holds a comma, a quote, a line feed or a carriage return, or where it is the record's only one and empty; each quote in it is doubled.
abbrev pub record_text : List Text → Text
record_text fields = row_text default_writer fields

-- with the names of the levels or without
abbrev pub header_fields : Bool → Table → List Text
header_fields index t = (if index then map name_field t.level_names else []) ++ map heading_field t.headings

-- with the labels of the row or without
abbrev pub row_fields : Bool → RowOf LabelValue CellValue → List Text
row_fields index r = (if index then map label_field r.labels else []) ++ map cell_field r.cells

abbrev pub csv_text_of : Bool → Table → Text
csv_text_of index t = record_text (header_fields index t) ++ flat_map (λ r. record_text (row_fields index r)) (rows_of na_cell t)
