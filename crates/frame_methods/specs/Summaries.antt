-- Summaries of the code as those of the definitions.
use Rattle.std.specs.Prelude.{◌≡◌, ℕ, List, map, drop, length, Result}
use Rattle.std.specs.Int.{cast_signed, w64}
use Rattle.cell_core.specs.declared.cell.Cell.{Cell}
use Rattle.cell_core.specs.declared.cell.Cell.TheVariants.{Int}
use Rattle.column_core.specs.cells.Text.{Text}
use Rattle.column_core.specs.cells.Cell.{CellValue, AreGiven, datum}
use Rattle.column_core.specs.cells.Fault.{FaultValue}
use Rattle.cell_core.specs.declared.cell.Kind.{Kind}
use Rattle.frame_store.specs.tables.Table.{ColumnOf}
use Rattle.frame_parts.specs.form.Finish.{try_all}
use Rattle.frame_store.specs.Shown.{columns_value}
use Rattle.frame_labels.specs.Columns.{with_front}
use Rattle.column_core.specs.Columns.{CellColumn}
use Rattle.nullable_array.specs.Folds.{reduction_of}
use Rattle.frame_labels.specs.method.Methods as meant
use Rattle.frame_methods.specs.declared.summaries.Summary.{Summary}
use Rattle.frame_methods.specs.declared.summaries.Summary.TheVariants.{Reduced, Distinct}

abbrev pub summary_value : Summary → meant.Summary
summary_value (Reduced op) = meant.reduced (reduction_of op)
summary_value Distinct = meant.distinct

abbrev pub counted_cell : ℕ → Cell
counted_cell count = Int (cast_signed w64 count)

abbrev pub column_cells : List Text → CellColumn → List CellValue
column_cells texts c = map (datum texts) c.cells

-- the cells of the columns before a place are made, and with what the others come to they are the whole
pub record AreCells (f : ColumnOf CellValue → Result CellValue FaultValue) (dict : List Text) (columns : List (ColumnOf Cell)) (kind : Kind) (place : ℕ) (made : CellColumn) : Type 0 where
  pub same : made.kind ≡ kind
  pub count : length made.cells ≡ place
  pub given : AreGiven dict made.cells
  pub answer : with_front (map (datum dict) made.cells) (try_all f (columns_value dict (drop place columns))) ≡ try_all f (columns_value dict columns)
