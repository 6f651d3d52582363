-- The pairs of a dict, by where their last values stand.
use Rattle.std.specs.Prelude.{ℕ, List, map, slice_get, Option, Some, None, Result, All, if◌then◌else◌}
use Rattle.cell_core.specs.declared.cell.Label.{Label}
use Rattle.column_core.specs.cells.Text.{Text}
use Rattle.column_core.specs.cells.Cell.{CellValue, LabelValue, label_datum}
use Rattle.column_core.specs.cells.Fault.{FaultValue}
use Rattle.frame_store.specs.tables.Settled.{IsSettled}
use Rattle.frame_store.specs.tables.Table.{ColumnOf}
use Rattle.frame_store.specs.tables.Value.{Given, GivenList, nothing, list_in}
use Rattle.meaning_call.specs.Binding.{each, is_scalar}
use Rattle.frame_parts.specs.form.Select.{cells_of}
use Rattle.frame_parts.specs.form.Set.{list_column}
use Rattle.frame_parts.specs.form.Make.{on}
use Rattle.frame_store.specs.Objects.{Tables}
use Rattle.frame_store.specs.Arguments.{argument_of}
use Rattle.frame_store.specs.Parts.{HeadingList}
use Rattle.frame_store.specs.declared.arguments.Argument.{Argument}

-- the value at a place
abbrev pub value_in : Tables → List Text → Option (Label × Argument) → Given
value_in live texts None = nothing
value_in live texts (Some p) = argument_of live texts p.1

-- keys, each with the place of its value among the pairs
abbrev pub entry_seen : Tables → List Text → List (Label × Argument) → Label × ℕ → LabelValue × Given
entry_seen live texts pairs e = (label_datum texts e.0, value_in live texts (slice_get pairs e.1))

abbrev pub entries_seen : Tables → List Text → List (Label × Argument) → List (Label × ℕ) → List (LabelValue × Given)
entries_seen live texts pairs es = map (entry_seen live texts pairs) es

-- the scalars of a list that has nothing else
abbrev pub alone : Option GivenList → Option (List CellValue)
alone None = None
alone (Some parts) = if each is_scalar parts then Some (cells_of parts) else None

abbrev pub scalars_in : Given → Option (List CellValue)
scalars_in g = alone (list_in g)

-- the scalars of an argument that is a list of them alone; an object is no scalar, so its table doesn't matter
abbrev pub list_seen : List Text → Argument → Option (List CellValue)
list_seen texts a = scalars_in (argument_of (λ id. None) texts a)

-- and of the values at these places
abbrev pub list_at : List Text → Option (Label × Argument) → Option (List CellValue)
list_at texts None = None
list_at texts (Some p) = list_seen texts p.1

abbrev pub lists_seen : List Text → List (Label × Argument) → List ℕ → List (Option (List CellValue))
lists_seen texts pairs places = map (λ place. list_at texts (slice_get pairs place)) places

-- the column of a list; anything but a list of scalars is a TypeError
abbrev pub listed_column : Option (List CellValue) → Result (ColumnOf CellValue) FaultValue
listed_column cells = on cells list_column

-- the texts of labels, of keys and of the lists among values were given
abbrev pub AreSettledLabels : List Text → List Label → Type 0
AreSettledLabels texts labels = All (λ (label : Label). IsSettled label_datum texts label) labels

abbrev pub AreSettledKeys : List Text → List (Label × Argument) → Type 0
AreSettledKeys texts pairs = All (λ (p : Label × Argument). IsSettled label_datum texts p.0) pairs

abbrev pub AreSettledLists : List Text → List (Label × Argument) → Type 0
AreSettledLists texts pairs = All (λ (p : Label × Argument). IsSettled list_seen texts p.1) pairs

-- keys as the labels of columns
abbrev pub key_headings : List Label → HeadingList
key_headings keys = record { columns_name = None; labels = map (λ key. Some key) keys }
