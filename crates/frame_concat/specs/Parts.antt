-- The columns and names of the tables that are put together.
use Rattle.std.specs.Prelude.{◌≡◌, Bool, true, nat_eq, List, [], ◌∷◌, length, slice_get, slice_index_or, position, map, Option, None, All}
use Rattle.std.specs.Option.{option_map}
use Rattle.std.specs.List.{list_all}
use Rattle.cell_core.specs.declared.cell.Cell.{Cell}
use Rattle.cell_core.specs.declared.cell.Label.{Label}
use Rattle.cell_core.specs.declared.grid.Shape.{Shape}
use Rattle.column_core.specs.cells.Text.{Text}
use Rattle.frame_store.specs.tables.Settled.{IsSettled}
use Rattle.frame_store.specs.tables.Table.{ColumnOf, TableOf, NumberedTable, Table, column_at, table_value}
use Rattle.frame_store.specs.Objects.{Tables}
use Rattle.frame_store.specs.Shown.{shown}
use Rattle.frame_store.specs.World.{IsKnownTable}
use Rattle.meaning_method.specs.join.Pairs.{or_else}
use Rattle.frame_select.specs.Headings.{shared_heading}
pub use Rattle.frame_select.specs.Headings.{same_heading}
use Rattle.frame_concat.specs.declared.parts.Sought.{Sought}
use Rattle.frame_concat.specs.declared.parts.Sought.TheVariants.{At, Under}
use Rattle.frame_concat.specs.declared.parts.Naming.{Naming}
use Rattle.frame_concat.specs.declared.parts.Naming.TheVariants.{Columns, Level, Series}

-- the column that is sought
abbrev pub column_sought : Sought → NumberedTable → Option (ColumnOf Cell)
column_sought (At place) t = slice_get t.columns place
column_sought (Under h) t = option_map (column_at t.columns) (position (same_heading h) t.headings)

-- the name that is sought
abbrev pub name_at : {L C : Type 0} → Naming → TableOf L C → Option L
name_at Columns t = t.columns_name
name_at (Level level) t = slice_index_or t.level_names level None
name_at Series t = slice_index_or t.headings 0 None

-- the parts with their texts
abbrev pub parts_value : List Text → List NumberedTable → List Table
parts_value texts parts = map (table_value texts) parts

-- the headings of each part
abbrev pub headings_of_each : {L C : Type 0} → List (TableOf L C) → List (List (Option L))
headings_of_each parts = map (λ t. t.headings) parts

-- of the first part that repeats a heading, the first such heading
abbrev pub repeated_in_any : List NumberedTable → Option Label
repeated_in_any [] = None
repeated_in_any (t ∷ ts) = or_else (shared_heading t.headings []) (repeated_in_any ts)

-- all parts have as many levels as the first
abbrev pub have_same_levels : List NumberedTable → Bool
have_same_levels [] = true
have_same_levels (t ∷ ts) = list_all (λ other. nat_eq (length t.level_names) (length other.level_names)) ts

-- all parts are of a shape
abbrev pub AreOf : Shape → List NumberedTable → Type 0
AreOf s parts = All (λ t. t.shape ≡ s) parts

-- each part is whole, and its texts were given their numbers
abbrev pub AreKnownParts : List Text → List NumberedTable → Type 0
AreKnownParts texts parts = All (IsKnownTable texts) parts

-- so they are where those of all objects were
abbrev pub AreSettledParts : Tables → List NumberedTable → Type 0
AreSettledParts tables parts = (texts : List Text) → IsSettled shown texts tables → AreKnownParts texts parts
