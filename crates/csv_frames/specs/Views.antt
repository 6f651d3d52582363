-- What is seen of records and of the columns that are read.
use Rattle.std.specs.Prelude.{◌≡◌, ◌≢◌, ℕ, List, [], ◌∷◌, map, length, All, AllPairs, string_bytes, Option, Some, None, IfSome, Result, Ok, Err, if◌then◌else◌}
use Rattle.std.specs.declared.string.String.{String}
use Rattle.cell_core.specs.declared.cell.Kind.{Kind}
use Rattle.cell_core.specs.declared.cell.Cell.{Cell}
use Rattle.cell_core.specs.declared.cell.Label.{Label}
use Rattle.column_core.specs.cells.Text.{Text, same_text}
use Rattle.column_core.specs.cells.Cell.{CellValue, datum, text_of, LabelValue, text}
use Rattle.column_core.specs.Columns.{CellColumn}
use Rattle.meaning_csv.specs.tables.Table.{ColumnOf, tuple_value}
use Rattle.meaning_csv.specs.CsvRead.{CsvValue, CsvRefusal, not_utf8, no_record, long_record, not_of_kind, beyond_limits, field_in}
use Rattle.csv_frames.specs.declared.table.NamedKind.{NamedKind}
use Rattle.csv_frames.specs.declared.table.CsvTable.{CsvTable}
use Rattle.csv_frames.specs.declared.table.CsvFault.{CsvFault}
use Rattle.csv_frames.specs.declared.table.CsvFault.TheVariants.{NotUtf8, NoColumn, LongRow, NotCast, TooLarge, NoMemory}

-- the fields of a column
abbrev pub column_fields : ℕ → List (List Text) → List Text
column_fields place rows = map (field_in place) rows

abbrev pub texts_seen : {Y : Type 0} → List (String Y) → List Text
texts_seen texts = map string_bytes texts

-- the labels of columns, each a tuple of its own
abbrev pub label_tuples : List Text → List (List LabelValue)
label_tuples labels = map (λ l. text l ∷ []) labels

abbrev pub tuples_seen : List Text → List (List Label) → List (List LabelValue)
tuples_seen texts tuples = map (tuple_value texts) tuples

-- a column, and columns, with texts
abbrev pub column_seen : List Text → CellColumn → ColumnOf CellValue
column_seen texts c = record { kind = c.kind; cells = map (datum texts) c.cells }

abbrev pub cells_seen : List Text → List Cell → List CellValue
cells_seen texts cells = map (datum texts) cells

abbrev pub columns_seen : List Text → List CellColumn → List (ColumnOf CellValue)
columns_seen texts columns = map (column_seen texts) columns

-- the kinds that are named for labels
abbrev pub entries_seen : List Text → List NamedKind → List (Text × Kind)
entries_seen texts kinds = map (λ n. (text_of texts n.label, n.kind)) kinds

-- the kinds that are named for labels, kept by label
abbrev pub kinds_seen : {Y : Type 0} → List (String Y × Kind) → List (Text × Kind)
kinds_seen entries = map (λ e. (string_bytes e.0, e.1)) entries

abbrev pub kind_at : List (Text × Kind) → Text → Option Kind
kind_at [] label = None
kind_at (n ∷ ns) label = if same_text label n.0 then Some n.1 else kind_at ns label

-- the columns of a file, with texts
abbrev pub csv_seen : List Text → CsvTable → CsvValue
csv_seen texts t = record { rows = t.rows; labels = tuples_seen texts t.labels; columns = columns_seen texts t.columns }

-- each column has a label of its own, and a cell for each row
pub record PartsFit (t : CsvTable) : Type 0 where
  pub headed : length t.labels ≡ length t.columns
  pub different : AllPairs (λ a b. a ≢ b) t.labels
  pub filled : All (λ (c : CellColumn). length c.cells ≡ t.rows) t.columns

-- what a fault says of a file, but for want of memory
abbrev pub refusal_of : CsvFault → Option CsvRefusal
refusal_of (NotUtf8 place) = Some (not_utf8 place)
refusal_of NoColumn = Some no_record
refusal_of (LongRow number width length) = Some (long_record number width length)
refusal_of NotCast = Some not_of_kind
refusal_of TooLarge = Some beyond_limits
refusal_of NoMemory = None

-- What reading a file answers is what is meant, or its first refusal is. Want of memory may come in place of any answer.
abbrev pub ReadsAs : List Text → Result CsvTable CsvFault → Result CsvValue CsvRefusal → Type 0
ReadsAs texts (Ok t) meant = meant ≡ Ok (csv_seen texts t)
ReadsAs texts (Err fault) meant = IfSome (refusal_of fault) (λ refusal. meant ≡ Err refusal)

-- What a call that reads a file answers: what is meant, or its first refusal, after which no text was given a number.
-- Want of memory may come in place of any answer.
abbrev pub ReadAnswers : List Text → List Text → Result CsvTable CsvFault → Result CsvValue CsvRefusal → Type 0
ReadAnswers old new (Ok t) meant = meant ≡ Ok (csv_seen new t)
ReadAnswers old new (Err fault) meant = IfSome (refusal_of fault) (λ refusal. (meant ≡ Err refusal) × (new ≡ old))
