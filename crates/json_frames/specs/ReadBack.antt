-- What is read back of the JSON text of a frame.
use Rattle.std.specs.Prelude.{◌≡◌, ◌≢◌, true, List, map, length, All, AllPairs, Ok}
use Rattle.std.specs.List.{list_any}
use Rattle.std.specs.Ordering.{nat_cmp}
use Rattle.std.specs.Cmp.Lexicographic.{slice_cmp}
use Rattle.std.specs.declared.cmp.Ordering.TheVariants.{Less}
use Rattle.std.specs.Str.{IsUtf8}
use Rattle.meaning_json.specs.cells.Text.{Text}
use Rattle.meaning_json.specs.cells.Cell.{CellValue, LabelValue, truth, int, text, na, cell_label, has_64_bits, Int64}
use Rattle.meaning_json.specs.cells.Reduce.{is_present}
use Rattle.meaning_json.specs.cells.cell_core.declared.grid.Shape.TheVariants.{Frame}
use Rattle.meaning_json.specs.tables.Table.{Table, ColumnOf}
use Rattle.meaning_json.specs.tables.Valid.{IsValid}
use Rattle.meaning_json.specs.form.Finish.{default_labels}
use Rattle.meaning_json.specs.declared.Orient.TheVariants.{Records, Split}
use Rattle.meaning_json.specs.JsonWrite.{column_labels, row_labels, records_json, split_json, value_text}
use Rattle.meaning_json.specs.JsonRead.{JsonValue, tuples, table_of_text}

-- what a table has as a label or a cell: a whole number of 64 bits or a text in UTF-8, where it is one
abbrev pub IsLabel : LabelValue → Type 0
IsLabel (int z) = has_64_bits z ≡ true
IsLabel (text t) = IsUtf8 t
IsLabel (truth b) = Unit {0}
IsLabel na = Unit {0}

abbrev pub IsCell : CellValue → Type 0
IsCell c = IsLabel (cell_label c)

-- a column of truth values or texts has a cell that isn't missing
abbrev pub ShowsKind : ColumnOf CellValue → Type 0
ShowsKind c = c.kind ≢ Int64 → list_any is_present c.cells ≡ true

-- a frame of one level, of which every column shows its kind
pub record IsPlain (t : Table) : Type 0 where
  pub frame : t.shape ≡ Frame
  pub valid : IsValid t
  pub single : length t.level_names ≡ 1
  pub headings : All IsLabel (column_labels t)
  pub labels : All IsLabel (row_labels t)
  pub cells : All (λ (c : ColumnOf CellValue). All IsCell c.cells) t.columns
  pub kinds : All ShowsKind t.columns

-- the table with these labels of rows, without the names of its level and of its columns
abbrev pub read_with : List (List LabelValue) → Table → JsonValue
read_with rows t = record { labels = tuples (column_labels t); rows = rows; columns = t.columns }

-- the text of labels and rows reads as the table
abbrev pub SplitReadsBack : Table → Type 0
SplitReadsBack t = table_of_text Split (value_text (split_json t)) ≡ Ok (read_with t.labels t)

-- labels that are different texts in ascending order
abbrev pub AreAscending : List LabelValue → Type 0
AreAscending labels = (keys : List Text) × (labels ≡ map text keys) × AllPairs (λ a b. slice_cmp nat_cmp a b ≡ Less) keys

-- the text of the records reads as the table on the default axis
abbrev pub RecordsReadBack : Table → Type 0
RecordsReadBack t = table_of_text Records (value_text (records_json t)) ≡ Ok (read_with (default_labels (length t.labels)) t)
