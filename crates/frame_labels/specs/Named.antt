-- Columns that an argument names, and those that it leaves.
use Rattle.std.specs.Prelude.{◌≡◌, ◌<◌, ℕ, Bool, false, List, [], ◌∷◌, map, length, slice_get, slice_index_or, nat_eq, Option, Some, Result, Ok, IfOk}
use Rattle.std.specs.List.{list_any}
use Rattle.cell_core.specs.declared.cell.Cell.{Cell}
use Rattle.cell_core.specs.declared.cell.Label.{Label}
use Rattle.cell_core.specs.Values.{label_of}
use Rattle.column_core.specs.cells.Text.{Text}
use Rattle.column_core.specs.cells.Cell.{LabelValue}
use Rattle.column_core.specs.cells.Fault.{FaultValue, then_value}
use Rattle.frame_store.specs.tables.Settled.{IsSettled}
use Rattle.frame_store.specs.tables.Table.{NumberedTable, Table}
use Rattle.frame_store.specs.tables.Value.{Given}
use Rattle.frame_signatures.specs.call.Binding.{HasNoText}
use Rattle.frame_parts.specs.Makes.{MakesBy}
use Rattle.frame_store.specs.declared.fault.OpFault.{OpFault}
use Rattle.frame_store.specs.Arguments.{arguments_of}
use Rattle.frame_store.specs.Parts.{AreColumnsOf}
use Rattle.frame_store.specs.World.{World}
use Rattle.frame_select.specs.Selected.{as_it_is}
use Rattle.frame_signatures.specs.Bound.{stands_at}
use Rattle.frame_signatures.specs.declared.bound.Bound.{Bound}
use Rattle.frame_parts.specs.form.Select.{places_besides}
use Rattle.meaning_method.specs.pick.Keys.{each_key}
use Rattle.meaning_method.specs.select.Keys.{label_columns}

-- the argument at a place, and the first one
abbrev pub stands_in : World → Bound → ℕ → Given
stands_in w b place = stands_at w.tables w.texts b place

abbrev pub first_in : World → Bound → Given
first_in w b = stands_in w b 0

-- the texts of the arguments were given, and what stands at the place where none is given is no text
pub record NamesColumnsAt (w : World) (b : Bound) (place : ℕ) : Type 0 where
  pub given : IsSettled (arguments_of w.tables) w.texts b.args.now
  pub no_text : HasNoText (slice_get b.parameters.now place)

-- the same of the first
abbrev pub NamesColumns : World → Bound → Type 0
NamesColumns w b = NamesColumnsAt w b 0

-- the places are those that are meant, which the table has, or the first fault is
abbrev pub FindsPlaces : List Text → NumberedTable → Result (List ℕ) OpFault → Result (List ℕ) FaultValue → Type 0
FindsPlaces texts t found meant = MakesBy as_it_is texts found meant × IfOk found (AreColumnsOf t)

-- for each number below a count whether it is among the places
pub record AreMarks (marks : List Bool) (limit : ℕ) (places : List ℕ) : Type 0 where
  pub count : length marks ≡ limit
  pub each : (place : ℕ) → place < limit → slice_index_or marks place false ≡ list_any (nat_eq place) places

-- the columns of a table that have none of these labels, each of which some column has
abbrev pub columns_kept : Table → List LabelValue → Result (List ℕ) FaultValue
columns_kept t labels = then_value (label_columns t (each_key (map (λ l. l ∷ []) labels))) (λ places. Ok (places_besides t places))

-- the label that a cell is, as a heading
abbrev pub some_label : Cell → Option Label
some_label cell = Some (label_of cell)
