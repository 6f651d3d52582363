-- The kinds that a dict names for columns.
use Rattle.std.specs.Prelude.{List, [], ◌∷◌, Option, Some, None}
use Rattle.std.specs.Option.{option_map}
use Rattle.cell_core.specs.declared.cell.Kind.{Kind}
use Rattle.column_core.specs.cells.Text.{Text}
use Rattle.column_core.specs.cells.Cell.{CellValue, LabelValue, text, text_of as text_at}
use Rattle.meaning_call.specs.Binding.{text_of}
use Rattle.frame_parts.specs.form.Make.{kind_named}
use Rattle.csv_frames.specs.declared.table.NamedKind.{NamedKind}

-- the kind that is named for a label, where both are texts
abbrev pub kind_for : LabelValue → Option CellValue → Option (Text × Kind)
kind_for (text label) value = option_map (λ name. (label, kind_named name)) (text_of value)
kind_for label value = None

-- the text of a label and the kind that is named for it, as they were read
abbrev pub entry_seen : List Text → NamedKind → Text × Kind
entry_seen texts n = (text_at texts n.label, n.kind)

-- the kind, where there is one
abbrev pub kinds_of : Option NamedKind → List NamedKind
kinds_of None = []
kinds_of (Some kind) = kind ∷ []
