-- What settings are made of.
use Rattle.std.specs.Prelude.{◌≢◌, ℕ, ◌+◌, nat_eq, List, map, fold, length, replicate, Option, Some, None, Result, Ok, Err, ⊤, if◌then◌else◌}
use Rattle.cell_core.specs.declared.cell.Cell.{Cell}
use Rattle.cell_core.specs.declared.cell.Cell.TheVariants.{Na}
use Rattle.column_core.specs.cells.Text.{Text}
use Rattle.column_core.specs.cells.Cell.{LabelValue}
use Rattle.column_core.specs.cells.Fault.{FaultValue, limit}
use Rattle.multi_index.specs.Axes.{AxisValue}
use Rattle.column_core.specs.Columns.{CellColumn}
use Rattle.frame_store.specs.tables.Table.{ColumnOf, NumberedTable, Table, TableOf}
use Rattle.frame_store.specs.tables.Change.{with_column}
use Rattle.frame_store.specs.tables.Value.{Given, one, table}
use Rattle.frame_parts.specs.form.Finish.{within_limits}
use Rattle.frame_parts.specs.form.Select.{places_of_label}
use Rattle.frame_select.specs.select.Set.{places_to_put}
use Rattle.frame_store.specs.Objects.{Tables}
use Rattle.frame_store.specs.Arguments.{object_value, argument_of, IsLiveObject, IsLiveArgument}
use Rattle.frame_store.specs.Shown.{spent}
use Rattle.frame_store.specs.World.{World, IsKnown}
use Rattle.frame_store.specs.declared.object.ObjId.{ObjId}
use Rattle.frame_store.specs.declared.arguments.Value.{Value}
use Rattle.frame_store.specs.declared.arguments.Value.TheVariants.{Object, Scalar}
use Rattle.frame_store.specs.declared.fault.OpFault.{OpFault}
use Rattle.frame_set.specs.declared.values.NewValue.{NewValue}
use Rattle.frame_set.specs.declared.values.NewValue.TheVariants.{Copied, Moved}

-- what is given, an object as its table
abbrev pub new_value : Tables → List Text → NewValue → Given
new_value tables texts (Copied a) = argument_of tables texts a.now
new_value tables texts (Moved id) = one (table (object_value tables texts id))

abbrev pub new_value_in : World → NewValue → Given
new_value_in w value = new_value w.tables w.texts value

-- the object that ends with the setting
abbrev pub moved_object : NewValue → Option ObjId
moved_object (Copied a) = None
moved_object (Moved id) = Some id

-- the value isn't the object
abbrev pub IsOther : Value → ObjId → Type 0
IsOther (Object o) id = o.0 ≢ id.0
IsOther (Scalar c) id = Unit {0}

-- what is given is live; and known, where its texts were given their numbers
abbrev pub IsLiveNew : Tables → NewValue → Type 0
IsLiveNew tables (Copied a) = IsLiveArgument tables a.now
IsLiveNew tables (Moved id) = IsLiveObject tables id

abbrev pub IsKnownNew : World → NewValue → Type 0
IsKnownNew w value = IsKnown IsLiveNew new_value w value

-- the world without an object, if there is one, that ends with a setting; a refusal ends none. What it holds counts on.
abbrev pub without : Result ⊤ OpFault → Option ObjId → World → World
without r spare w = record w { tables = spent r spare w.tables }

-- a column of a kernel as a column of a table
abbrev pub table_column : CellColumn → ColumnOf Cell
table_column c = record { kind = c.kind; cells = c.cells }

-- how many columns there are after one was put in place of so many of them, or last
abbrev pub count_after : ℕ → ℕ → ℕ
count_after columns replaced = if nat_eq replaced 0 then columns + 1 else columns

-- the places in which a column of the label is put, of a table that isn't beyond the limits with so many rows
abbrev pub put_places : ℕ → Table → LabelValue → Result (List ℕ) FaultValue
put_places rows t l =
    if within_limits rows (count_after (length t.headings) (length (places_of_label t.headings l))) then Ok (places_to_put t l) else Err limit

-- the table with the column in each of these places, under the label
abbrev pub with_places : {L C : Type 0} → TableOf L C → List ℕ → L → ColumnOf C → TableOf L C
with_places t places label column = fold (λ u place. with_column u place (Some label) column) t places

-- the columns of missing cells, and the table of them with the rows of an axis
abbrev pub missing_cells : ℕ → ColumnOf Cell → ColumnOf Cell
missing_cells rows c = record { kind = c.kind; cells = replicate rows Na }

abbrev pub with_axis : NumberedTable → AxisValue → NumberedTable
with_axis t axis = record t { labels = axis.tuples; level_names = axis.names; columns = map (missing_cells (length axis.tuples)) t.columns }
