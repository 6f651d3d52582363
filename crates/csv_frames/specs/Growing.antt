-- Columns that grow field by field.
use Rattle.std.specs.Prelude.{◌≡◌, ℕ, ℤ, ◌<◌, true, false, Bool, not, List, [], ◌∷◌, ◌++◌, map, replicate, length, get_or, Option, Some, None, if◌then◌else◌}
use Rattle.std.specs.List.{list_all, list_any}
use Rattle.cell_core.specs.declared.cell.Cell.TheVariants as cell
use Rattle.cell_core.specs.declared.cell.TextId.{TextId}
use Rattle.column_core.specs.cells.Text.{Text}
use Rattle.column_core.specs.cells.Cell.{Kind, Int64, string, datum, na_cell}
use Rattle.column_core.specs.cells.Cast.{whole_number, truth_value}
use Rattle.meaning_csv.specs.tables.Settled.{IsSettled}
use Rattle.meaning_csv.specs.tables.Valid.{within_limits}
use Rattle.column_core.specs.Columns.{CellColumn, text_cell}
use Rattle.column_core.specs.Lanes.{IsPushed}
use Rattle.column_core.specs.declared.lanes.Owned.{Owned}
use Rattle.meaning_csv.specs.CsvRead.{is_missing, kind_of_fields, cell_of_field, column_of_fields, has_misfit}
use Rattle.csv_frames.specs.Views.{column_fields, column_seen}
use Rattle.csv_frames.specs.declared.growing.Growing.{Growing}
use Rattle.csv_frames.specs.declared.growing.Growing.TheVariants as growing
use Rattle.csv_frames.specs.declared.growth.Growth.{Growth}

-- the column without a field, of the kind that is named for it, if one is
abbrev pub without_fields : Option Kind → Growing
without_fields None = growing.Missing
without_fields (Some kind) = growing.Cells (record { kind = kind; cells = [] })

-- whether its cells weren't kept
abbrev pub is_mixed : Growing → Bool
is_mixed growing.Missing = false
is_mixed (growing.Cells column) = false
is_mixed growing.Mixed = true

-- the kind of the fields so far
abbrev pub kind_so_far : Growing → Kind
kind_so_far growing.Missing = Int64
kind_so_far (growing.Cells column) = column.kind
kind_so_far growing.Mixed = string

-- the column of so many fields, if its cells were kept
abbrev pub column_so_far : ℕ → Growing → CellColumn
column_so_far rows growing.Missing = record { kind = Int64; cells = replicate rows cell.Na }
column_so_far rows (growing.Cells column) = column
column_so_far rows growing.Mixed = record { kind = string; cells = [] }

-- the number and the truth value that a field is, if it isn't missing
abbrev pub number_in : Text → Option ℤ
number_in field = if is_missing field then None else whole_number field

abbrev pub truth_in : Text → Option Bool
truth_in field = if is_missing field then None else truth_value field

-- one value more, or one that is missing
abbrev pub IsPut : {T : Type 0} → Option T → Owned T → Owned T → Type 0
IsPut value before after = IsPushed before.values.items before.present.items value after.values.items after.present.items

-- the number of this field's text more, or one value that is missing
abbrev pub IsTextPut : List Text → Text → Owned TextId → Owned TextId → Type 0
IsTextPut texts field before after =
    (text : Option TextId) × IsSettled datum texts (text_cell text) × (datum texts (text_cell text) ≡ cell_of_field string field) × IsPut text before after

-- the column has the cell of this field more
abbrev pub IsGrownBy : List Text → List Text → Text → CellColumn → CellColumn → Type 0
IsGrownBy old new field before after =
    IsSettled column_seen old before
    → IsSettled column_seen new after × (column_seen new after ≡ record { kind = before.kind; cells = map (datum old) before.cells ++ cell_of_field before.kind field ∷ [] })

-- the column of so many missing cells and this field
abbrev pub IsFirst : List Text → ℕ → Text → CellColumn → Type 0
IsFirst texts rows field column =
    let kind : Kind = kind_of_fields (field ∷ []) in
    IsSettled column_seen texts column × (column_seen texts column ≡ record { kind = kind; cells = replicate rows na_cell ++ cell_of_field kind field ∷ [] })

-- the column of these fields, of the kind that is named for it, if one is: no kind is named where its cells aren't there yet or weren't kept
abbrev pub Grown : List Text → Option Kind → List Text → Growing → Type 0
Grown texts named fields growing.Missing = (named ≡ None) × (list_all is_missing fields ≡ true)
Grown texts named fields (growing.Cells column) =
    IsSettled column_seen texts column × (column_seen texts column ≡ column_of_fields named fields) × (named ≡ None → list_all is_missing fields ≡ false)
Grown texts named fields growing.Mixed = (named ≡ None) × (kind_of_fields fields ≡ string)

-- a column for each of the kinds
pub record AreGrown (texts : List Text) (kinds : List (Option Kind)) (rows : List (List Text)) (columns : List Growing) : Type 0 where
  pub count : length columns ≡ length kinds
  pub each : (place : ℕ) → place < length kinds → Grown texts (get_or kinds place None) (column_fields place rows) (get_or columns place growing.Missing)

-- these records, and their columns as long as these are within the limits
pub record GrownTo (texts : List Text) (kinds : List (Option Kind)) (rows : List (List Text)) (g : Growth) : Type 0 where
  pub count : g.rows ≡ length rows
  pub fits : g.fits ≡ not (list_any (has_misfit kinds) rows)
  pub columns : within_limits (length rows) (length kinds) ≡ true → AreGrown texts kinds rows g.columns.items
