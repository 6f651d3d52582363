-- The tables that are made of groups.
use Rattle.std.specs.Prelude.{◌≡◌, ℕ, Bool, true, false, List, [], ◌∷◌, ◌++◌, map, length, Option, None, Result, Ok, Err, if◌then◌else◌}
use Rattle.cell_core.specs.declared.grid.Shape.{Shape}
use Rattle.cell_core.specs.declared.grid.Shape.TheVariants.{Series, Frame}
use Rattle.cell_core.specs.declared.cell.Label.{Label}
use Rattle.column_core.specs.cells.Text.{Text}
use Rattle.column_core.specs.cells.Cell.{CellValue, LabelValue}
use Rattle.column_core.specs.cells.Fault.{FaultValue}
use Rattle.frame_store.specs.tables.Settled.{IsSettled}
use Rattle.frame_store.specs.tables.Table.{ColumnOf, NumberedTable, Table}
use Rattle.frame_store.specs.tables.Value.{Entry, table}
use Rattle.frame_parts.specs.form.Finish.{default_labels, first_shared, unless_repeated}
use Rattle.frame_select.specs.select.Select.{as_series, shown_as}
use Rattle.frame_labels.specs.method.Groups as meant
use Rattle.frame_labels.specs.method.Groups.{keys_of, key_column, headings_of}
use Rattle.multi_index.specs.Axes.{AxisValue}
use Rattle.frame_store.specs.declared.fault.OpFault.{OpFault}
use Rattle.frame_store.specs.declared.fault.OpFault.TheVariants.{Refused, NoMemory}
use Rattle.frame_store.specs.Parts.{HeadingList}
use Rattle.frame_store.specs.Shown.{labels_value, headings_value, Refuses}
use Rattle.frame_select.specs.Selected.{headings_at}
use Rattle.frame_groups.specs.declared.grouping.Grouping.{Grouping}

-- one column as a Series, or a frame
abbrev pub shape_if : Bool → Shape
shape_if true = Series
shape_if false = Frame

abbrev pub name_if : Bool → Option Label → Option Label
name_if true name = None
name_if false name = name

abbrev pub headings_if : Bool → Option Label → List (Option Label) → HeadingList
headings_if single name labels = record { columns_name = name_if single name; labels = labels }

abbrev pub shown_if : Bool → Table → Table
shown_if true t = as_series t
shown_if false t = t

-- so many rows, and these headings over as many columns
pub record HasHeadings (texts : List Text) (labels : List (Option Label)) (count : ℕ) (t : Table) : Type 0 where
  pub headings : t.headings ≡ headings_value texts labels
  pub headed : length t.columns ≡ length labels
  pub rows : length t.labels ≡ count

-- the table may be shown, or the first fault is that of showing it
abbrev pub MayShow : {X : Type 0} → List Text → Result X OpFault → Bool → Table → Type 0
MayShow texts (Ok made) single t = shown_as false single t ≡ Ok (table (shown_if single t))
MayShow texts (Err (Refused code)) single t = Refuses texts code (shown_as false single t)
MayShow texts (Err NoMemory) single t = Unit {0}

-- the labels of the rows and the names of their levels, as they are seen
pub record IsAxis (texts : List Text) (labels : List (List LabelValue)) (names : List (Option LabelValue)) (axis : AxisValue) : Type 0 where
  pub labels_seen : labels_value texts axis.tuples ≡ labels
  pub names_seen : headings_value texts axis.names ≡ names
  pub labels_given : IsSettled labels_value texts axis.tuples
  pub names_given : IsSettled headings_value texts axis.names

-- the keys as labels, or the rows numbered
abbrev pub group_labels : Table → meant.Grouping → List (List LabelValue)
group_labels t g = if g.as_index then keys_of t g else default_labels (length (keys_of t g))

abbrev pub group_names : Table → meant.Grouping → List (Option LabelValue)
group_names t g = if g.as_index then headings_of t g.keys else (None ∷ [])

-- the headings of the keys, where they are columns, and others behind them
abbrev pub key_headings : NumberedTable → Grouping → List (Option Label)
key_headings t g = if g.as_index then [] else headings_at t g.keys

abbrev pub group_headings : NumberedTable → Grouping → List (Option Label) → List (Option Label)
group_headings t g own = key_headings t g ++ own

-- the first label of a key that is a column which another column has too
abbrev pub shared_key : List Text → NumberedTable → Grouping → List (Option Label) → Option LabelValue
shared_key texts t g own = first_shared (headings_value texts (key_headings t g)) (headings_value texts own)

-- it names the label that is shared, or there was no memory to do so
abbrev pub NamesShared : List Text → OpFault → Option LabelValue → Type 0
NamesShared texts (Refused code) shared = (rest : Result Entry FaultValue) → Refuses texts code (unless_repeated shared rest)
NamesShared texts NoMemory shared = Unit {0}

-- the keys as columns, where they are columns
abbrev pub group_keys : Table → meant.Grouping → List (ColumnOf CellValue)
group_keys t g = if g.as_index then [] else map (key_column t g) g.keys
