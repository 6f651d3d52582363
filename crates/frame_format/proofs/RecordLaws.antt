-- The fields of records.
use Rattle.{
  meaning_format.{proofs.cells.Common.{◌≢◌, Option, subst, false, ◌≡◌, ℕ, ◌+◌, ◌<◌, List, [], ◌∷◌, ◌++◌, length, map, get_or, ap, ◌∙◌, append_assoc, Some, arith, length-map, get_or-map, flat_map-map, fill_by_all, map-map, IsUtf8-append, flat_map, IsUtf8, CellValue, LabelValue, na_cell, Text}, specs.{tables.Table.{Table, ColumnOf, RowOf, no_column, row_of, rows_of}, CsvWrite.{cell_field, record_text}, Print.{places}}},
  std.{proofs.Common.{append-nil, Vec}, specs.Io.KnownBytes.{Appends}},
  csv.{proofs.RecordFacts.{text-more}, specs.{Records.{Row, fields_of, partial_of, AllText}, declared.writer.{Writer.{Writer}, WriterBuilder.{WriterBuilder}}, Writing.{row_text, text_written, writer_under, writer_pending, writer_setup, fields_written, has_written, default_writer}}},
  frame_format.{specs.Written.{HasWritten, IsFilled}, proofs.{FieldLaws.{flat_more}, TextOfRecords.{no_texts, record_utf8}}},
}
use Rattle.csv.specs.declared.writer.QuoteStyle.TheVariants as style

-- all fields of a record's part
pub fields_placed : {A : Type 0} (f : A → Text) (xs : List A) (d : A) (n : ℕ) (first fields : List Text) → fields ≡ first ++ map (λ k. f (get_or xs k d)) (places n) → length xs ≡ n → fields ≡ first ++ map f xs
fields_placed f xs d n _ _ made is =
    cc (fill_by_all (λ k. f (get_or xs k d)) (map f xs) n [] (length-map xs f ∙ is) (λ k h. get_or-map f xs k d [] (let lt : k < length xs = omega arith in lt)))

-- the fields of a row's cells
pub cells_placed : (columns : List (ColumnOf CellValue)) (row n : ℕ) (first fields : List Text) → fields ≡ first ++ map (λ k. cell_field (get_or (get_or columns k no_column).cells row na_cell)) (places n) → length columns ≡ n
    → fields ≡ first ++ map cell_field (map (λ (c : ColumnOf CellValue). get_or c.cells row na_cell) columns)
cells_placed _ row n first _ made is =
    fields_placed (λ c. cell_field (get_or c.cells row na_cell)) _ _ n _ _ made is
    ∙ ap (λ l. first ++ l) (search map-map)

-- the records of all rows
pub rows_written : (t : Table) (f : RowOf LabelValue CellValue → Text) → flat_map (λ row. f (row_of na_cell t row)) (places (length t.labels)) ≡ flat_map f (rows_of na_cell t)
rows_written = search flat_map-map

-- a writer that has written nothing
pub nothing_written : {A : Type 0} (w : Writer (Vec ℕ A)) (v : Vec ℕ A) (b : WriterBuilder) → writer_under w ≡ v → v.items ≡ [] → writer_pending w ≡ [] → writer_setup w ≡ b → b ≡ default_writer → fields_written w ≡ 0 → has_written w ≡ false → HasWritten w []
nothing_written {A} = grind arith

-- a record more
appended : (old new : Option (List ℕ)) (bytes bs : List ℕ) → old ≡ Some bytes → Appends old new bs → new ≡ Some (bytes ++ bs)
appended = grind arith

pub record_more : {A : Type 0} (w w' : Writer (Vec ℕ A)) (bytes : List ℕ) (fields : List Text) → HasWritten w bytes → AllText fields → writer_setup w' ≡ writer_setup w → fields_written w' ≡ 0 → has_written w' ≡ false
    → (fields_written w ≡ 0 → has_written w ≡ false → (writer_setup w).style ≢ style.NonNumeric → Appends (text_written (λ (v : Vec ℕ A). Some v.items) w) (text_written (λ (v : Vec ℕ A). Some v.items) w') (row_text (writer_setup w) fields))
    → HasWritten w' (bytes ++ record_text fields)
record_more = grind (arith, IsUtf8-append, record_utf8, appended)

-- a record without a field, and one with a field more
pub cleared : (r : Row) → fields_of r ≡ [] → partial_of r ≡ [] → IsFilled r
cleared = grind (arith, no_texts)

pub filled_more : (r r' : Row) (t : Text) → IsFilled r → fields_of r' ≡ fields_of r ++ (partial_of r ++ t) ∷ [] → partial_of r' ≡ [] → IsUtf8 t → IsFilled r'
filled_more = grind (arith, text-more)

-- the header record
pub header_written : {A : Type 0} (w w' : Writer (Vec ℕ A)) (fields header : List Text) → HasWritten w [] → ((bytes : List ℕ) → HasWritten w bytes → HasWritten w' (bytes ++ record_text fields)) → fields ≡ header → HasWritten w' (record_text header ++ [])
header_written w _ _ header before writes = grind (arith, append-nil (record_text header), writes [] before)

-- the record of a row more
pub row_written : {A : Type 0} (w w' : Writer (Vec ℕ A)) (header : Text) (rows : ℕ → List Text) (n : ℕ) (fields : List Text) → HasWritten w (header ++ flat_map (λ row. record_text (rows row)) (places n)) → ((bytes : List ℕ) → HasWritten w bytes → HasWritten w' (bytes ++ record_text fields)) → fields ≡ rows n
    → HasWritten w' (header ++ flat_map (λ row. record_text (rows row)) (places (n + 1)))
row_written w w' header rows n _ before writes is =
    let f = λ (row : ℕ). record_text (rows row) in
    subst (HasWritten w') (grind (arith, append_assoc, flat_more)) (writes (header ++ flat_map f (places n)) before)
