-- Values of settings and what they reach, as they are meant.
use Rattle.std.specs.Prelude.{◌≡◌, ℕ, ◌<◌, ◌+◌, ◌*◌, ◌∷◌, [], nat_lt, slice_get, slice_index, Bool, true, false, not, List, length, Option, Some, None, option_map, Result, Ok, Err, All, IfSome, IsOk, ⊤, if◌then◌else◌}
use Rattle.cell_core.specs.declared.cell.Kind.{Kind}
use Rattle.cell_core.specs.declared.cell.Kind.TheVariants.{Int64}
use Rattle.cell_core.specs.declared.code.Code.{Code}
use Rattle.cell_core.specs.declared.grid.Shape.TheVariants.{Series, Frame}
use Rattle.column_core.specs.cells.Fault.{FaultValue, no_key, then_value}
use Rattle.column_core.specs.cells.Symbol.{Accessor}
use Rattle.std.specs.List.{list_any}
use Rattle.label_align.specs.pick.Keys.{Pick}
use Rattle.frame_parts.specs.form.Infix.{same_tuple}
use Rattle.frame_store.specs.declared.fault.OpFault.{OpFault}
use Rattle.frame_store.specs.declared.fault.OpFault.TheVariants.{Refused, NoMemory}
use Rattle.cell_core.specs.declared.cell.Label.{Label}
use Rattle.column_core.specs.cells.Text.{Text}
use Rattle.column_core.specs.cells.Cell.{LabelValue, datum, label_datum}
use Rattle.frame_store.specs.tables.Table.{NumberedTable, Table, column_at}
use Rattle.frame_store.specs.tables.Value.{GivenSub}
use Rattle.frame_select.specs.select.Keys.{joined_key}
use Rattle.frame_select.specs.select.Set as meant
use Rattle.frame_store.specs.Objects.{Tables}
use Rattle.frame_store.specs.Arguments.{object_value, shape_at, IsLiveObject}
use Rattle.frame_store.specs.Shown.{cells_value, Refuses}
use Rattle.frame_set.specs.declared.values.SetValue.{SetValue}
use Rattle.frame_set.specs.declared.values.SetValue.TheVariants.{Same, Listed, Aligned}
use Rattle.frame_set.specs.declared.targets.Reached.{Reached}
use Rattle.frame_set.specs.declared.targets.Target.{Target}

abbrev pub value_in : Tables → List Text → SetValue → meant.SetValue
value_in tables texts (Same c) = meant.same (datum texts c)
value_in tables texts (Listed cells) = meant.listed (cells_value texts cells)
value_in tables texts (Aligned id) = meant.aligned (object_value tables texts id)

-- an object of a setting is a live Series
abbrev pub IsLiveSetValue : Tables → SetValue → Type 0
IsLiveSetValue tables (Same c) = Unit {0}
IsLiveSetValue tables (Listed cells) = Unit {0}
IsLiveSetValue tables (Aligned id) = IsLiveObject tables id × (shape_at tables id ≡ Series)

abbrev pub reached_value : List Text → Reached → meant.Reached
reached_value texts reached = record { places = reached.places; added = option_map (label_datum texts) reached.added }

abbrev pub target_value : List Text → Target → meant.Target
target_value texts target = record { rows = reached_value texts target.rows; columns = reached_value texts target.columns }

-- the rows that two keys of a Series reach, which are one tuple
abbrev pub rows_of_pair : Accessor → Table → GivenSub → GivenSub → Result meant.Reached FaultValue
rows_of_pair by t first second = then_value (joined_key by (length t.level_names) first second) (meant.rows_set by t)

-- how many cells are reached
abbrev pub cells_reached : Target → ℕ
cells_reached target = length target.rows.places * length target.columns.places

-- a key is refused as one that isn't there, exactly where no tuple is the label that it would add
abbrev pub is_no_key : Result Pick FaultValue → Bool
is_no_key (Err (no_key key)) = true
is_no_key pick = false

abbrev pub TellsAbsence : Option LabelValue → List (List LabelValue) → Result Pick FaultValue → Type 0
TellsAbsence None tuples pick = Unit {0}
TellsAbsence (Some l) tuples pick = is_no_key pick ≡ not (list_any (same_tuple (l ∷ [])) tuples)

-- places among so many, or the one behind them that is added
abbrev pub ArePlacesOf : ℕ → List ℕ → Option Label → Type 0
ArePlacesOf count places None = All (λ place. place < count) places
ArePlacesOf count places (Some label) = places ≡ count ∷ []

abbrev pub IsReachedOf : ℕ → Reached → Type 0
IsReachedOf count reached = ArePlacesOf count reached.places reached.added

-- a column is added to a frame
abbrev pub AddsToFrame : NumberedTable → Option Label → Type 0
AddsToFrame t added = IfSome added (λ label. t.shape ≡ Frame)

-- a row is added on one level alone
abbrev pub AddsOnOne : NumberedTable → Reached → Type 0
AddsOnOne t reached = IfSome reached.added (λ label. length t.level_names ≡ 1)

pub record IsTargetOf (t : NumberedTable) (target : Target) : Type 0 where
  pub rows : IsReachedOf (length t.labels) target.rows
  pub one : AddsOnOne t target.rows
  pub columns : IsReachedOf (length t.columns) target.columns
  pub frame : AddsToFrame t target.columns.added

-- a test that passes where something is made, and else refuses with its fault, whatever the texts are
abbrev pub Tests : {A : Type 0} → Result ⊤ OpFault → Result A FaultValue → Type 0
Tests (Ok done) meant = IsOk meant
Tests (Err (Refused code)) meant = (texts : List Text) → Refuses texts code meant
Tests (Err NoMemory) meant = ⊥

-- a test that passes where this is so, and else refuses with a code
abbrev pub TestsThat : Result ⊤ OpFault → Bool → Code → Type 0
TestsThat (Ok done) so code = so ≡ true
TestsThat (Err fault) so code = (so ≡ false) × (fault ≡ Refused code)

-- the kind of a column, where one more has another
abbrev pub kind_there : NumberedTable → ℕ → Kind → Kind
kind_there t place added = if nat_lt place (length t.columns) then (column_at t.columns place).kind else added

-- the columns at these places have the kinds of those there, and the one more has another
abbrev pub HasKinds : Table → NumberedTable → Kind → List ℕ → Type 0
HasKinds grown t added places = (k : ℕ) → k < length places → (column_at grown.columns (slice_index places k)).kind ≡ kind_there t (slice_index places k) added

-- these are the kinds of the columns at these places
pub record AreKindsOf (grown : Table) (places : List ℕ) (kinds : List Kind) : Type 0 where
  pub count : length kinds ≡ length places
  pub each : (k : ℕ) (kind : Kind) → slice_get kinds k ≡ Some kind → (column_at grown.columns (slice_index places k)).kind ≡ kind

-- how many rows and columns there are with what is added
abbrev pub count_with : ℕ → Option Label → ℕ
count_with count None = count
count_with count (Some label) = count + 1

abbrev pub rows_after : NumberedTable → Target → ℕ
rows_after t target = count_with (length t.labels) target.rows.added

abbrev pub columns_after : NumberedTable → Target → ℕ
columns_after t target = count_with (length t.columns) target.columns.added

-- the kind of the column that a setting adds, where it adds one
abbrev pub kind_added : Option Label → meant.SetValue → Result Kind FaultValue
kind_added None value = Ok Int64
kind_added (Some label) value = meant.kind_of_value value
