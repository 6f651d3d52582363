-- What a file of JSON reads as.
use Rattle.std.specs.Prelude.{ℕ, ◌^◌, ◌==◌, ◌&&◌, Bool, true, false, not, nat_lt, List, [], ◌∷◌, map, length, codes, Option, Some, None, is_some, unwrap_or, option_map, option_and_then, Result, Ok, Err, if◌then◌else◌}
use Rattle.std.specs.List.{list_any, list_all, range_with_len}
use Rattle.std.specs.Ordering.{nat_cmp, is_lt}
use Rattle.std.specs.Cmp.Lexicographic.{slice_cmp}
use Rattle.std.specs.Str.Lossy.{utf8_valid_len}
use Rattle.serde_json.specs.Data.{Data, null, boolean, number, string, array, object, Items, no_items, item, Members, no_members, member}
use Rattle.serde_json.specs.Read.{read}
use Rattle.serde_json.specs.Find.{get, at, as_i64, as_array}
use Rattle.meaning_format.specs.cells.Text.{Text, same_text}
use Rattle.meaning_format.specs.cells.Cell.{CellValue, na_cell, int_cell, truth_cell, text_cell, LabelValue, text, cell_label, Kind, Int64, Boolean, string as texts}
use Rattle.meaning_format.specs.tables.Table.{ColumnOf, same_kind}
use Rattle.meaning_format.specs.tables.Valid.{within_limits}
use Rattle.meaning_form.specs.Finish.{default_labels}
use Rattle.meaning_json.specs.declared.Orient.{Orient}
use Rattle.meaning_json.specs.declared.Orient.TheVariants.{Records, Split}

-- the labels of the columns and of the rows, each a tuple of its own, and the columns, which have a cell for each row
pub record JsonValue : Type 0 where
  pub labels : List (List LabelValue)
  pub rows : List (List LabelValue)
  pub columns : List (ColumnOf CellValue)

-- Why a file has no columns: it isn't UTF-8 from a byte on; it isn't JSON; its value isn't a table in the orient's form; a column has cells of two kinds; it is beyond the limits.
pub data JsonRefusal : Type 0 where
  not_utf8 : ℕ → JsonRefusal
  not_json : JsonRefusal
  not_table : JsonRefusal
  two_kinds : JsonRefusal
  beyond_limits : JsonRefusal

-- Values

abbrev pub values_in : Items → List Data
values_in no_items = []
values_in (item d ds) = d ∷ values_in ds

abbrev pub members_in : Members → List (Text × Data)
members_in no_members = []
members_in (member k d ms) = (k, d) ∷ members_in ms

-- null, a truth value, a whole number of 64 bits or a text is a cell
abbrev pub cell_in : Data → Option CellValue
cell_in null = Some na_cell
cell_in (boolean b) = Some (truth_cell b)
cell_in (number n) = option_map int_cell (as_i64 n)
cell_in (string s) = Some (text_cell s)
cell_in (array ds) = None
cell_in (object ms) = None

abbrev pub is_cell : Data → Bool
is_cell d = is_some (cell_in d)

-- the cell that is found, or a missing one where there is none
abbrev pub cell_found : Option Data → CellValue
cell_found found = unwrap_or (option_and_then cell_in found) na_cell

abbrev pub label_in : Data → LabelValue
label_in d = cell_label (cell_found (Some d))

-- Columns

-- the kind of a cell, if it isn't missing
abbrev pub cell_kind : CellValue → Option Kind
cell_kind na_cell = None
cell_kind (int_cell z) = Some Int64
cell_kind (truth_cell b) = Some Boolean
cell_kind (text_cell t) = Some texts

-- the first of two kinds that is known
abbrev pub first_kind : Option Kind → Option Kind → Option Kind
first_kind None kind = kind
first_kind (Some known) kind = Some known

-- the kind of the first cell that isn't missing, and whole numbers where all are
abbrev pub known_kind : List CellValue → Option Kind
known_kind [] = None
known_kind (c ∷ cells) = first_kind (cell_kind c) (known_kind cells)

abbrev pub kind_of_cells : List CellValue → Kind
kind_of_cells cells = unwrap_or (known_kind cells) Int64

-- whether a cell is missing or of the kind
abbrev pub is_of : Kind → Option Kind → Bool
is_of kind None = true
is_of kind (Some k) = same_kind kind k

abbrev pub has_two_kinds : List CellValue → Bool
has_two_kinds cells = not (list_all (λ c. is_of (kind_of_cells cells) (cell_kind c)) cells)

abbrev pub column_of_cells : List CellValue → ColumnOf CellValue
column_of_cells cells = record { kind = kind_of_cells cells; cells = cells }

-- the table with these labels of columns, these labels of rows, and these cells for each column
abbrev pub table_of : List (List LabelValue) → List (List LabelValue) → List (List CellValue) → Result JsonValue JsonRefusal
table_of labels rows columns =
    if list_any has_two_kinds columns then Err two_kinds
    else if within_limits (length rows) (length labels) then Ok record { labels = labels; rows = rows; columns = map column_of_cells columns }
    else Err beyond_limits

-- each label as a tuple of its own
abbrev pub tuples : List LabelValue → List (List LabelValue)
tuples labels = map (λ l. l ∷ []) labels

-- Records: an array of objects of cells

abbrev pub is_record : Data → Bool
is_record (object ms) = list_all (λ m. is_cell m.1) (members_in ms)
is_record null = false
is_record (boolean b) = false
is_record (number n) = false
is_record (string s) = false
is_record (array ds) = false

abbrev pub keys_in : Data → List Text
keys_in (object ms) = map (λ m. m.0) (members_in ms)
keys_in null = []
keys_in (boolean b) = []
keys_in (number n) = []
keys_in (string s) = []
keys_in (array ds) = []

-- a key among others in the order of texts: in its place, if it isn't there
abbrev pub key_in_place : Text → List Text → List Text
key_in_place key [] = key ∷ []
key_in_place key (k ∷ keys) = if is_lt (slice_cmp nat_cmp key k) then key ∷ k ∷ keys else k ∷ key_in_place key keys

abbrev pub with_key : List Text → Text → List Text
with_key keys key = if list_any (same_text key) keys then keys else key_in_place key keys

abbrev pub with_keys : List Text → List Text → List Text
with_keys keys [] = keys
with_keys keys (key ∷ more) = with_keys (with_key keys key) more

-- all keys of these records, each once, in the order of texts
abbrev pub keys_after : List Text → List Data → List Text
keys_after keys [] = keys
keys_after keys (row ∷ rows) = keys_after (with_keys keys (keys_in row)) rows

abbrev pub keys_of : List Data → List Text
keys_of rows = keys_after [] rows

-- the cells under a key; a key that a record hasn't is a missing cell
abbrev pub cells_under : List Data → Text → List CellValue
cells_under rows key = map (λ row. cell_found (get key row)) rows

-- the columns are the keys, and the rows have the default labels
abbrev pub records_table : List Data → Result JsonValue JsonRefusal
records_table rows = table_of (tuples (map text (keys_of rows))) (default_labels (length rows)) (map (cells_under rows) (keys_of rows))

abbrev pub read_records : Option (List Data) → Result JsonValue JsonRefusal
read_records None = Err not_table
read_records (Some rows) = if list_all is_record rows then records_table rows else Err not_table

-- Split: an object of exactly three arrays

pub record SplitParts : Type 0 where
  pub columns : List Data
  pub index : List Data
  pub rows : List Data

abbrev pub member_count : Data → ℕ
member_count d = length (keys_in d)

abbrev pub array_in : Data → Option (List Data)
array_in d = option_map values_in (as_array d)

abbrev pub array_under : Text → Data → Option (List Data)
array_under key d = option_and_then array_in (get key d)

-- the arrays under the three keys
abbrev pub split_parts : Data → Option SplitParts
split_parts d =
    option_and_then (λ columns. option_and_then (λ index. option_map (λ rows. record { columns = columns; index = index; rows = rows })
    (array_under (codes "data") d)) (array_under (codes "index") d)) (array_under (codes "columns") d)

-- a row: an array of so many cells
abbrev pub are_row : ℕ → Option (List Data) → Bool
are_row width None = false
are_row width (Some values) = (length values == width) && list_all is_cell values

abbrev pub is_row : ℕ → Data → Bool
is_row width d = are_row width (array_in d)

-- labels that are cells, and for each label of a row a row that has a cell for each column
abbrev pub is_split : SplitParts → Bool
is_split p = list_all is_cell p.columns && list_all is_cell p.index && (length p.rows == length p.index) && list_all (is_row (length p.columns)) p.rows

-- the cells of a column
abbrev pub cells_at : List Data → ℕ → List CellValue
cells_at rows place = map (λ row. cell_found (at place row)) rows

abbrev pub split_table : SplitParts → Result JsonValue JsonRefusal
split_table p = table_of (tuples (map label_in p.columns)) (tuples (map label_in p.index)) (map (cells_at p.rows) (range_with_len 0 (length p.columns)))

abbrev pub read_split : Option SplitParts → Result JsonValue JsonRefusal
read_split None = Err not_table
read_split (Some p) = if is_split p then split_table p else Err not_table

-- Files

abbrev pub table_in : Orient → Data → Result JsonValue JsonRefusal
table_in Records d = read_records (array_in d)
table_in Split d = if member_count d == 3 then read_split (split_parts d) else Err not_table

abbrev pub table_if_read : Orient → Option Data → Result JsonValue JsonRefusal
table_if_read orient None = Err not_json
table_if_read orient (Some d) = table_in orient d

-- A JSON text's table, or the first refusal. The value is the one that the kit's `serde_json` reads, with arrays and objects nested up to 127 deep; an object has each key once, with the last value that stands under it.
abbrev pub table_of_text : Orient → List ℕ → Result JsonValue JsonRefusal
table_of_text orient bytes =
    if nat_lt (utf8_valid_len bytes) (length bytes) then Err (not_utf8 (utf8_valid_len bytes))
    else table_if_read orient (read bytes)

-- A file's table, or the first refusal; one of more than 2^28 bytes is refused before all.
abbrev pub table_of_file : Orient → List ℕ → Result JsonValue JsonRefusal
table_of_file orient bytes = if nat_lt (2 ^ 28) (length bytes) then Err beyond_limits else table_of_text orient bytes
