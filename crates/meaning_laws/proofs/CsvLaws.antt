-- A file of comma-separated values reads as a valid frame.
use Rattle.{
  meaning_script.{proofs.cells.Common.{◌≡◌, refl, ap, ℕ, suc, List, [], ◌∷◌, length, map, arith, nat_tests, length-map, All-nil, Bool, true, false, if◌then◌else◌, slice_get, unwrap_or, Option, Some, IsSome, IfSome, Result, IfOk, All, with_text, Text, CellValue, na_cell, text_cell, LabelValue, text, Kind, cast_cell}, specs.{tables.Value.{NamedGiven}, csv.CsvRead.{CsvValue, CsvRefusal, is_missing, cell_of_field, column_of_fields, columns_from, labels_after, labels_of, labelled_columns, columns_of_rows, columns_of_records, columns_of_file}, method.Readers.{frame_of_columns, frame_or_fault, read_result}}},
  meaning_laws.{specs.Validity.{IsValidEntry}, proofs.{ListLaws.{both_true, all_mapped}, ColumnLaws.{IsColumn, Held, cast_held}, TableLaws.{IsShaped, valid, frame_headings}, SetLaws.{length_default, default_levels}}},
}

-- fields

or_missing : (kind : Kind) (o : Option CellValue) → IfSome o (Held kind) → Held kind (unwrap_or o na_cell)
or_missing = grind arith

field_held : (kind : Kind) (field : Text) → Held kind (cell_of_field kind field)
field_held kind field = or_missing _ _ (by (is_missing field))
  where
    by : (b : Bool) → IfSome (if b then Some na_cell else cast_cell kind (text_cell field)) (Held kind)
    by true = refl
    by false = search cast_held

fields_column : (named : Option Kind) (fields : List Text) → IsColumn (length fields) (column_of_fields named fields)
fields_column = search (length-map, all_mapped, field_held)

columns_are : (place : ℕ) (kinds : List (Option Kind)) (rows : List (List Text)) → All (IsColumn (length rows)) (columns_from place kinds rows)
columns_are place [] rows = grind arith
columns_are place (named ∷ more) rows = grind (arith, length-map, fields_column, columns_are (suc place) more rows)

length_columns : (place : ℕ) (kinds : List (Option Kind)) (rows : List (List Text)) → length (columns_from place kinds rows) ≡ length kinds
length_columns place [] rows = refl
length_columns place (named ∷ more) rows = ap suc (length_columns _ more _)

-- labels

length_after : (columns : ℕ) (before taken labels : List Text) → length (labels_after columns before taken labels) ≡ length labels
length_after columns before taken [] = refl
length_after columns before taken (label ∷ labels) = ap suc (length_after _ (with_text before label) _ labels)

abbrev heading_of : List LabelValue → Option LabelValue
heading_of label = slice_get label 0

abbrev label_of : Text → List LabelValue
label_of l = text l ∷ []

abbrev headings_of : List Text → List (Option LabelValue)
headings_of labels = map heading_of (map label_of labels)

headings_some : (labels : List Text) → All IsSome (headings_of labels)
headings_some [] = All-nil IsSome
headings_some (l ∷ ls) = grind (arith, headings_some ls)

frame_shaped : (labels : List Text) (kinds : List (Option Kind)) (rows : List (List Text)) → length kinds ≡ length labels → IsShaped (frame_of_columns (labelled_columns labels kinds rows))
frame_shaped = grind (arith, default_levels, length-map, length_columns, length_default, columns_are, frame_headings, headings_some)

-- the tables that are read
abbrev IsRead : Result CsvValue CsvRefusal → Type 0
IsRead r = IfOk (frame_or_fault r) IsValidEntry

rows_read : (header : List Text) (kinds : List (Option Kind)) (rows : List (List Text)) → length kinds ≡ length (labels_of header) → IsRead (columns_of_rows (labels_of header) kinds rows)
rows_read = grind (arith, length_after, both_true, nat_tests, valid, frame_shaped, length_default, length_columns)

records_read : (kinds : List (Text × Kind)) (records : List (List Text)) → IsRead (columns_of_records kinds records)
records_read = grind (arith, rows_read, length-map)

module _ (bytes : List ℕ) where
  file_read : (kinds : List (Text × Kind)) → IsRead (columns_of_file bytes kinds)
  file_read = grind (arith, records_read)

  -- a file that is read
  pub read_result_keeps : (gs : List NamedGiven) → IfOk (read_result bytes gs) IsValidEntry
  read_result_keeps = grind (arith, file_read)
