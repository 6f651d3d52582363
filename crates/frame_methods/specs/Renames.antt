-- Columns under the labels that a dict gives them.
use Rattle.std.specs.Prelude.{Bool, List, [], ◌∷◌, map, is_some, unwrap_or, Option, Some, None, Result, Ok, Err, if◌then◌else◌}
use Rattle.std.specs.Option.{option_map}
use Rattle.std.specs.List.{list_all}
use Rattle.std.specs.Map.{lookup}
use Rattle.cell_core.specs.declared.cell.Label.{Label}
use Rattle.column_core.specs.cells.Text.{Text}
use Rattle.column_core.specs.cells.Cell.{LabelValue, label_datum}
use Rattle.column_core.specs.cells.Operator.{cell_label}
use Rattle.column_core.specs.cells.Fault.{FaultValue, wrong_kind}
use Rattle.frame_store.specs.tables.Table.{heading_value}
use Rattle.frame_store.specs.tables.Value.{Given, scalar_in}
use Rattle.meaning_call.specs.Binding.{same_label}
use Rattle.frame_store.specs.Parts.{HeadingList}
use Rattle.frame_store.specs.Shown.{headings_value}
use Rattle.frame_store.specs.Arguments.{argument_of}
use Rattle.frame_store.specs.declared.arguments.Argument.{Argument}
use Rattle.frame_select.specs.Headings.{same_number}

-- a key of a dict, and the label that its value is; none where that is no scalar
abbrev pub label_pair : LabelValue × Given → LabelValue × Option LabelValue
label_pair p = (p.0, option_map cell_label (scalar_in p.1))

-- the pairs of a dict as they were given; an object is no label, so its table doesn't matter
abbrev pub given_label : List Text → Label × Argument → LabelValue × Option LabelValue
given_label texts p = (label_datum texts p.0, option_map cell_label (scalar_in (argument_of (λ id. None) texts p.1)))

abbrev pub given_labels : List Text → List (Label × Argument) → List (LabelValue × Option LabelValue)
given_labels texts pairs = map (given_label texts) pairs

-- keys with their labels, with texts
abbrev pub pair_seen : List Text → Label × Option Label → LabelValue × Option LabelValue
pair_seen texts e = (label_datum texts e.0, heading_value texts e.1)

abbrev pub pairs_seen : List Text → List (Label × Option Label) → List (LabelValue × Option LabelValue)
pairs_seen texts es = map (pair_seen texts) es

-- each key has a label
abbrev pub have_labels : {L : Type 0} → List (L × Option L) → Bool
have_labels es = list_all is_some (map (λ e. e.1) es)

-- the label of a key, if it has one, and else the old label
abbrev pub found_label : Option (Option Label) → Option Label
found_label None = None
found_label (Some o) = o

abbrev pub label_by : List (Label × Option Label) → Label → Label
label_by es l = unwrap_or (found_label (lookup (same_number l) es)) l

abbrev pub heading_by : List (Label × Option Label) → Option Label → Option Label
heading_by es None = None
heading_by es (Some l) = Some (label_by es l)

-- the label of a key, where labels have texts
abbrev pub label_from : List (LabelValue × Option LabelValue) → LabelValue → Option LabelValue
label_from [] l = None
label_from (e ∷ es) l = if same_label e.0 l then e.1 else label_from es l

abbrev pub heading_from : List (LabelValue × Option LabelValue) → Option LabelValue → Option LabelValue
heading_from es None = None
heading_from es (Some l) = Some (unwrap_or (label_from es l) l)

-- headings under the labels of these pairs, which must all be labels
abbrev pub relabelled : List (LabelValue × Option LabelValue) → List (Option LabelValue) → Result (List (Option LabelValue)) FaultValue
relabelled es hs = if have_labels es then Ok (map (heading_from es) hs) else Err wrong_kind

abbrev pub labels_seen : List Text → HeadingList → List (Option LabelValue)
labels_seen texts h = headings_value texts h.labels
