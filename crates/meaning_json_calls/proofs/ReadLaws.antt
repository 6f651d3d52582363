-- What a file of JSON reads as has parts that fit one another.
use Rattle.meaning_json.{
  proofs.cells.Common.{◌≡◌, ◌∙◌, sym, subst, ℕ, refl, List, [], ◌∷◌, map, length, arith, nat_tests, Bool, true, false, if◌then◌else◌, Option, Some, None, Result, Ok, Err, IfOk, All, All-map, length-map, length-map-range_with_len, list_any, list_all, ◌==◌, ◌&&◌, Text, CellValue, LabelValue, text, int, pos, range_with_len},
  specs.{tables.{Table.{ColumnOf}, Valid.{within_limits}}, form.Finish.{default_labels}, declared.Orient.{Orient}, JsonRead.{JsonValue, JsonRefusal, not_table, two_kinds, beyond_limits, SplitParts, has_two_kinds, column_of_cells, table_of, tuples, keys_of, cells_under, records_table, read_records, split_parts, split_table, read_split, is_split, is_cell, is_row, label_in, cells_at, array_in, table_in, table_if_read, table_of_file}},
}
use Rattle.serde_json.specs.Data.{Data}
use Rattle.serde_json.specs.Read.{read}
use Rattle.meaning_json.specs.declared.Orient.TheVariants.{Records, Split}

-- each label is a tuple of its own
abbrev pub AreSingle : List (List LabelValue) → Type 0
AreSingle labels = All (λ tuple. length tuple ≡ 1) labels

-- a label for each column, a cell of each column for each row, and no more than the limits allow
pub record IsRead (read : JsonValue) : Type 0 where
  pub labels : AreSingle read.labels
  pub rows : AreSingle read.rows
  pub headed : length read.labels ≡ length read.columns
  pub filled : All (λ (c : ColumnOf CellValue). length c.cells ≡ length read.rows) read.columns
  pub limited : within_limits (length read.rows) (length read.labels) ≡ true

abbrev Reads : Result JsonValue JsonRefusal → Type 0
Reads r = IfOk r IsRead

-- Labels

singles : (labels : List LabelValue) → AreSingle (tuples labels)
singles labels = All-map (λ (tuple : List LabelValue). length tuple ≡ 1) (λ l. l ∷ []) labels (λ k d lt. refl)

defaults : (count : ℕ) → AreSingle (default_labels count)
defaults count = All-map (λ (tuple : List LabelValue). length tuple ≡ 1) (λ row. int (pos row) ∷ []) (range_with_len 0 count) (λ k d lt. refl)

count_defaults : (count : ℕ) → length (default_labels count) ≡ count
count_defaults count = length-map-range_with_len (λ row. int (pos row) ∷ []) 0 count

count_tuples : (labels : List LabelValue) → length (tuples labels) ≡ length labels
count_tuples labels = length-map labels (λ l. l ∷ [])

-- Tables

-- columns of so many cells each
abbrev HaveCells : ℕ → List (List CellValue) → Type 0
HaveCells count columns = All (λ cells. length cells ≡ count) columns

module _ (labels rows : List (List LabelValue)) (columns : List (List CellValue)) (single : AreSingle labels) (each : AreSingle rows) (headed : length labels ≡ length columns) (filled : HaveCells (length rows) columns) where
  made : within_limits (length rows) (length labels) ≡ true → IsRead record { labels = labels; rows = rows; columns = map column_of_cells columns }
  made few =
      record {
        labels = single;
        rows = each;
        headed = headed ∙ sym (length-map columns column_of_cells);
        filled = All-map (λ (c : ColumnOf CellValue). length c.cells ≡ length rows) column_of_cells columns filled;
        limited = few;
      }

  table_read : Reads (table_of labels rows columns)
  table_read = by (list_any has_two_kinds columns) (within_limits (length rows) (length labels)) refl
    where
      by : (mixed few : Bool) → within_limits (length rows) (length labels) ≡ few
          → Reads (if mixed then Err two_kinds else if few then Ok record { labels = labels; rows = rows; columns = map column_of_cells columns } else Err beyond_limits)
      by true few e = tt
      by false true e = made e
      by false false e = tt

cells_counted : (rows : List Data) (keys : List Text) → HaveCells (length rows) (map (cells_under rows) keys)
cells_counted rows keys = All-map (λ (cells : List CellValue). length cells ≡ length rows) (cells_under rows) keys (λ k d lt. length-map rows _)

column_counted : (rows : List Data) (places : List ℕ) → HaveCells (length rows) (map (cells_at rows) places)
column_counted rows places = All-map (λ (cells : List CellValue). length cells ≡ length rows) (cells_at rows) places (λ k d lt. length-map rows _)

records_read : (rows : List Data) → Reads (records_table rows)
records_read rows =
    let keys = keys_of rows in
    table_read (tuples (map text keys)) (default_labels (length rows)) (map (cells_under rows) keys) (singles (map text keys)) (defaults (length rows))
    (count_tuples (map text keys) ∙ length-map keys text ∙ sym (length-map keys (cells_under rows)))
    (subst (λ n. HaveCells n (map (cells_under rows) keys)) (sym (count_defaults (length rows))) (cells_counted rows keys))

split_read : (p : SplitParts) → length p.rows ≡ length p.index → Reads (split_table p)
split_read p each =
    let labels = map label_in p.columns in
    let index = map label_in p.index in
    let places = range_with_len 0 (length p.columns) in
    table_read (tuples labels) (tuples index) (map (cells_at p.rows) places) (singles labels) (singles index)
    (count_tuples labels ∙ length-map p.columns label_in ∙ sym (length-map-range_with_len (cells_at p.rows) 0 (length p.columns)))
    (subst (λ n. HaveCells n (map (cells_at p.rows) places)) (each ∙ sym (count_tuples index ∙ length-map p.index label_in)) (column_counted p.rows places))

-- Values

as_many : (a b d : Bool) (rows index : ℕ) → a && b && (rows == index) && d ≡ true → rows ≡ index
as_many = grind (arith, nat_tests)

rows_for_index : (p : SplitParts) → is_split p ≡ true → length p.rows ≡ length p.index
rows_for_index p is = as_many (list_all is_cell p.columns) (list_all is_cell p.index) (list_all (is_row (length p.columns)) p.rows) (length p.rows) (length p.index) is

parts_read : (found : Option SplitParts) → Reads (read_split found)
parts_read None = tt
parts_read (Some p) = by (is_split p) refl
  where
    by : (split : Bool) → is_split p ≡ split → Reads (if split then split_table p else Err not_table)
    by true is = split_read p (rows_for_index p is)
    by false is = tt

array_read : (found : Option (List Data)) → Reads (read_records found)
array_read None = tt
array_read (Some rows) = grind (arith, records_read rows)

value_read : (orient : Orient) (d : Data) → Reads (table_in orient d)
value_read Records d = array_read (array_in d)
value_read Split d = grind (arith, parts_read (split_parts d))

text_read : (orient : Orient) (found : Option Data) → Reads (table_if_read orient found)
text_read orient None = tt
text_read orient (Some d) = value_read orient d

-- a file that is read
pub file_read : (orient : Orient) (bytes : List ℕ) → IfOk (table_of_file orient bytes) IsRead
file_read orient bytes = grind (arith, text_read orient (read bytes))
