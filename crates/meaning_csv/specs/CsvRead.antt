-- What a file of comma-separated values reads as.
use Rattle.std.specs.Prelude.{ℕ, suc, ◌+◌, ◌-◌, ◌^◌, Bool, false, not, ◌||◌, ◌==◌, nat_lt, List, [], ◌∷◌, ◌++◌, map, length, slice_index_or, codes, decimal, Option, Some, None, is_some, unwrap_or, Result, Ok, Err, if◌then◌else◌}
use Rattle.std.specs.List.{list_any, list_all, position_or_len, range_with_len}
use Rattle.std.specs.Str.Lossy.{utf8_valid_len}
use Rattle.csv.specs.Reading.{records, default_config, strip_bom}
use Rattle.meaning_tables.specs.cell_core.Texts.{with_text}
use Rattle.meaning_tables.specs.cells.Text.{Text, same_text}
use Rattle.meaning_tables.specs.cells.Cell.{CellValue, na_cell, text_cell, LabelValue, text, Kind, Int64, Boolean, string}
use Rattle.meaning_tables.specs.cells.Cast.{cast_cell}
use Rattle.meaning_tables.specs.Table.{ColumnOf}
use Rattle.meaning_tables.specs.Valid.{within_limits}

-- how many records stand after the header, the labels of the columns, each a tuple of its own, and the columns, which have a cell for each of these records
pub record CsvValue : Type 0 where
  pub rows : ℕ
  pub labels : List (List LabelValue)
  pub columns : List (ColumnOf CellValue)

-- Why a file has no columns: it isn't UTF-8 from a byte on; it has no record; a record, by its number, is longer than
-- the header, with both lengths; a field isn't of the kind that is named for its column; it is beyond the limits.
pub data CsvRefusal : Type 0 where
  not_utf8 : ℕ → CsvRefusal
  no_record : CsvRefusal
  long_record : ℕ → ℕ → ℕ → CsvRefusal
  not_of_kind : CsvRefusal
  beyond_limits : CsvRefusal

-- the fields that are missing cells, as pandas lists them for its readers
abbrev pub missing_texts : List Text
missing_texts =
    codes "" ∷ codes "#N/A" ∷ codes "#N/A N/A" ∷ codes "#NA" ∷ codes "-1.#IND" ∷ codes "-1.#QNAN" ∷ codes "-NaN" ∷ codes "-nan" ∷ codes "1.#IND" ∷ codes "1.#QNAN" ∷ codes "<NA>" ∷ codes "N/A" ∷ codes "NA" ∷ codes "NULL" ∷ codes "NaN" ∷ codes "None" ∷ codes "n/a" ∷ codes "nan" ∷ codes "null" ∷ []

abbrev pub is_missing : Text → Bool
is_missing field = list_any (same_text field) missing_texts

-- a field as a cell of a kind, where it can be one: missing, or the cast of its text
abbrev pub field_cell : Kind → Text → Option CellValue
field_cell kind field = if is_missing field then Some na_cell else cast_cell kind (text_cell field)

abbrev pub is_of_kind : Kind → Text → Bool
is_of_kind kind field = is_some (field_cell kind field)

-- whole numbers where all fields that aren't missing are, also where all are missing; else truth values where all are; else texts
abbrev pub kind_of_fields : List Text → Kind
kind_of_fields fields = if list_all (is_of_kind Int64) fields then Int64 else if list_all (is_of_kind Boolean) fields then Boolean else string

-- a field of the kind as a cell
abbrev pub cell_of_field : Kind → Text → CellValue
cell_of_field kind field = unwrap_or (field_cell kind field) na_cell

-- a column of the named kind, or of the kind of its fields; each field is of the kind
abbrev pub column_of_fields : Option Kind → List Text → ColumnOf CellValue
column_of_fields named fields =
    let kind : Kind = unwrap_or named (kind_of_fields fields) in
    record { kind = kind; cells = map (cell_of_field kind) fields }

-- the field of a record in a column; a record that is too short has an empty one there
abbrev pub field_in : ℕ → List Text → Text
field_in place fields = slice_index_or fields place []

-- a column for each of these kinds, from a place on
abbrev pub columns_from : ℕ → List (Option Kind) → List (List Text) → List (ColumnOf CellValue)
columns_from place [] rows = []
columns_from place (named ∷ more) rows = column_of_fields named (map (field_in place) rows) ∷ columns_from (suc place) more rows

-- whether a field of the record isn't of the kind that is named for its column
abbrev pub is_misfit : Option Kind → Text → Bool
is_misfit None field = false
is_misfit (Some kind) field = not (is_of_kind kind field)

abbrev pub has_misfit : List (Option Kind) → List Text → Bool
has_misfit (named ∷ more) (field ∷ fields) = is_misfit named field || has_misfit more fields
has_misfit kinds fields = false

-- the first record that is longer than the header, with its number
abbrev pub first_long : ℕ → ℕ → List (List Text) → Option CsvRefusal
first_long width number [] = None
first_long width number (row ∷ rows) = if nat_lt width (length row) then Some (long_record number width (length row)) else first_long width (suc number) rows

-- the labels of the header; an empty one is named by its place
abbrev pub label_named : ℕ → Text → Text
label_named place label = if length label == 0 then codes "Unnamed: " ++ decimal place else label

abbrev pub labels_named : ℕ → List Text → List Text
labels_named place [] = []
labels_named place (label ∷ labels) = label_named place label ∷ labels_named (suc place) labels

-- the label, a dot and a number
abbrev pub with_number : Text → ℕ → Text
with_number label number = label ++ (codes "." ++ decimal number)

abbrev pub is_free : List Text → Text → ℕ → Bool
is_free taken label number = not (list_any (same_text (with_number label number)) taken)

-- With the least number from 1 that gives no label that is taken. No more labels are taken than there are columns, and one of them is this one without a number; so one of the numbers up to the columns is free.
abbrev pub free_label : ℕ → List Text → Text → Text
free_label columns taken label = with_number label (1 + position_or_len (is_free taken label) (range_with_len 1 (columns - 1)))

-- the label of a column, where these labels stand before it and these are taken
abbrev pub next_label : ℕ → List Text → List Text → Text → Text
next_label columns before taken label = if list_any (same_text label) before then free_label columns taken label else label

abbrev pub labels_after : ℕ → List Text → List Text → List Text → List Text
labels_after columns before taken [] = []
labels_after columns before taken (label ∷ labels) =
    next_label columns before taken label ∷ labels_after columns (with_text before label) (with_text taken (next_label columns before taken label)) labels

-- each different text once, after those that were there
abbrev pub with_texts : List Text → List Text → List Text
with_texts texts [] = texts
with_texts texts (t ∷ ts) = with_texts (with_text texts t) ts

-- labels that all differ: from left to right one that stood before gets a number; the labels of the header are taken from the start
abbrev pub different_labels : List Text → List Text
different_labels labels = labels_after (length labels) [] (with_texts [] labels) labels

abbrev pub labels_of : List Text → List Text
labels_of header = different_labels (labels_named 0 header)

-- the kind that is listed last for a label, after one that was found before
abbrev pub kind_listed : Option Kind → List (Text × Kind) → Text → Option Kind
kind_listed found [] label = found
kind_listed found (n ∷ ns) label = kind_listed (if same_text n.0 label then Some n.1 else found) ns label

abbrev pub named_kind : List (Text × Kind) → Text → Option Kind
named_kind kinds label = kind_listed None kinds label

-- the columns of these records, with these labels, where a kind may be named for each
abbrev pub labelled_columns : List Text → List (Option Kind) → List (List Text) → CsvValue
labelled_columns labels kinds rows = record { rows = length rows; labels = map (λ l. text l ∷ []) labels; columns = columns_from 0 kinds rows }

abbrev pub columns_of_rows : List Text → List (Option Kind) → List (List Text) → Result CsvValue CsvRefusal
columns_of_rows labels kinds rows =
    if list_any (has_misfit kinds) rows then Err not_of_kind
    else if within_limits (length rows) (length labels) then Ok (labelled_columns labels kinds rows)
    else Err beyond_limits

-- the columns under a header
abbrev pub columns_under : List (Text × Kind) → List Text → List (List Text) → Result CsvValue CsvRefusal
columns_under kinds header rows = columns_of_rows (labels_of header) (map (named_kind kinds) (labels_of header)) rows

abbrev pub unless_refused : Option CsvRefusal → Result CsvValue CsvRefusal → Result CsvValue CsvRefusal
unless_refused None read = read
unless_refused (Some refusal) read = Err refusal

-- the columns of a file's records, of which the first is the header
abbrev pub columns_of_records : List (Text × Kind) → List (List Text) → Result CsvValue CsvRefusal
columns_of_records kinds [] = Err no_record
columns_of_records kinds (header ∷ rows) = unless_refused (first_long (length header) 2 rows) (columns_under kinds header rows)

-- A file's columns, or the first refusal. The records are those of RFC 4180 with records of any length and lines that end at CR, LF or both; a line without a byte is none, what stands behind a closing quote joins the field, a quote inside a field that doesn't begin with one is part of it, and a quote that nothing closes goes on to the end. One byte order mark at the front is dropped.
abbrev pub columns_of_file : List ℕ → List (Text × Kind) → Result CsvValue CsvRefusal
columns_of_file bytes kinds =
    if nat_lt (2 ^ 28) (length bytes) then Err beyond_limits
    else if nat_lt (utf8_valid_len bytes) (length bytes) then Err (not_utf8 (utf8_valid_len bytes))
    else columns_of_records kinds (records default_config (strip_bom bytes))
