-- What is seen of JSON values and of the tables that are read.
use Rattle.std.specs.Prelude.{◌≡◌, List, map, Option, Some, None, IfSome, Result, Ok, Err}
use Rattle.cell_core.specs.declared.cell.Cell.{Cell}
use Rattle.serde_json.specs.Data.{Data}
use Rattle.serde_json.specs.Find.{get, at}
use Rattle.serde_json.specs.View.{view}
use Rattle.serde_json.specs.declared.value.Value.{Value}
use Rattle.meaning_json.specs.cells.Text.{Text}
use Rattle.meaning_json.specs.cells.Cell.{CellValue, datum}
use Rattle.meaning_json.specs.JsonRead.{JsonValue, JsonRefusal, not_utf8, not_json, not_table, two_kinds, beyond_limits, cell_found, SplitParts as PartsValue}
use Rattle.csv_frames.specs.Views.{tuples_seen, columns_seen}
use Rattle.json_frames.specs.declared.values.Field.{Field}
use Rattle.json_frames.specs.declared.values.Field.TheVariants as field
use Rattle.json_frames.specs.declared.split.SplitParts.{SplitParts}
use Rattle.json_frames.specs.declared.reading.JsonTable.{JsonTable}
use Rattle.json_frames.specs.declared.reading.JsonFault.{JsonFault}
use Rattle.json_frames.specs.declared.reading.JsonFault.TheVariants.{NotUtf8, NotJson, NotTable, MixedKinds, TooLarge, NoMemory}

abbrev pub values_seen : List Value → List Data
values_seen values = map view values

-- the values of the three arrays
abbrev pub parts_seen : SplitParts → PartsValue
parts_seen p = record { columns = values_seen p.columns.now; index = values_seen p.index.now; rows = values_seen p.rows.now }

-- what stands under a key or at a place of a value
abbrev pub found_in : Field → Data → Option Data
found_in (field.Key key) d = get key.now d
found_in (field.Place place) d = at place d

-- the cells of some rows there
abbrev pub cells_in : Field → List Data → List CellValue
cells_in f rows = map (λ row. cell_found (found_in f row)) rows

abbrev pub cells_seen : List Text → List Cell → List CellValue
cells_seen texts cells = map (datum texts) cells

-- the table with texts
abbrev pub json_seen : List Text → JsonTable → JsonValue
json_seen texts t = record { labels = tuples_seen texts t.labels; rows = tuples_seen texts t.rows; columns = columns_seen texts t.columns }

-- what a fault says of a file, but for want of memory
abbrev pub refusal_of : JsonFault → Option JsonRefusal
refusal_of (NotUtf8 place) = Some (not_utf8 place)
refusal_of NotJson = Some not_json
refusal_of NotTable = Some not_table
refusal_of MixedKinds = Some two_kinds
refusal_of TooLarge = Some beyond_limits
refusal_of NoMemory = None

-- What is read is what is meant, or the fault is its first refusal. Want of memory may come in place of any answer.
abbrev pub ReadsAs : List Text → Result JsonTable JsonFault → Result JsonValue JsonRefusal → Type 0
ReadsAs texts (Ok t) meant = meant ≡ Ok (json_seen texts t)
ReadsAs texts (Err fault) meant = IfSome (refusal_of fault) (λ refusal. meant ≡ Err refusal)

-- the same, and after a refusal no text was given a number
abbrev pub ReadAnswers : List Text → List Text → Result JsonTable JsonFault → Result JsonValue JsonRefusal → Type 0
ReadAnswers old new (Ok t) meant = meant ≡ Ok (json_seen new t)
ReadAnswers old new (Err fault) meant = IfSome (refusal_of fault) (λ refusal. (meant ≡ Err refusal) × (new ≡ old))
