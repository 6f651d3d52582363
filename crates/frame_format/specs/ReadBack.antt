-- What a reader finds in the CSV text of a table.
use Rattle.std.specs.Prelude.{◌≡◌, Bool, List, ◌∷◌, map}
use Rattle.csv.specs.Reading.{records, default_config}
use Rattle.csv.specs.Writing.{read_back}
use Rattle.meaning_format.specs.cells.Text.{Text}
use Rattle.meaning_format.specs.cells.Cell.{na_cell}
use Rattle.meaning_format.specs.tables.Table.{Table, rows_of}
use Rattle.meaning_format.specs.CsvWrite.{header_fields, row_fields, csv_text_of}

-- the fields of the header, and then those of each row
abbrev pub table_fields : Bool → Table → List (List Text)
table_fields index t = header_fields index t ∷ map (row_fields index) (rows_of na_cell t)

-- the records of the text are these, but for a record without a field, which reads as one that is empty
abbrev pub ReadsBack : Bool → Table → Type 0
ReadsBack index t = records default_config (csv_text_of index t) ≡ map read_back (table_fields index t)
