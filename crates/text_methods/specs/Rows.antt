-- What a method makes of the texts of rows, and what is remembered of each text.
use Rattle.std.specs.Prelude.{◌≡◌, ℕ, ◌<◌, Bool, List, [], length, slice_index_or, Option, Some, None}
use Rattle.column_core.specs.cells.Cell.{datum, IsGiven, IsLonger}
use Rattle.cell_core.specs.declared.cell.Cell.{Cell}
use Rattle.cell_core.specs.declared.cell.TextId.{TextId}
use Rattle.cell_core.specs.declared.cell.Kind.TheVariants.{Text as string}
use Rattle.column_core.specs.cells.Column.{ColumnValue}
use Rattle.column_core.specs.Columns.{text_cell, column_value, column_with}
use Rattle.column_core.specs.Lanes.{option_at}
use Rattle.meaning_text.specs.TextMethod.{TextMethod, points_of, method_value, method_cell}

-- a column of texts by number, read through these texts
abbrev pub text_column : List (List ℕ) → ℕ → (ℕ → Option TextId) → ColumnValue
text_column texts count row = column_value texts (column_with string text_cell count row)

module _ {U : Type 0} (cell : Option U → Cell) (method : TextMethod) (early late : List (List ℕ)) where
  -- the value is what the method makes of the text that had this number early
  abbrev pub IsMade : ℕ → U → Type 0
  IsMade number value = (datum late (cell (Some value)) ≡ method_value method (points_of (slice_index_or early number []))) × IsGiven late (cell (Some value))

  -- there is a place for each number that was given early, and what is remembered there was made of its text
  abbrev pub IsMemo : List (Option U) → Type 0
  IsMemo memo =
      (length memo ≡ length early) × (IsLonger early late × ((number : ℕ) (value : U) → slice_index_or memo number None ≡ Some value → IsMade number value))

  -- the value of a row, or none, is what the method makes of its text
  abbrev pub IsRow : Option TextId → Option U → Type 0
  IsRow id value = (datum late (cell value) ≡ method_cell method (datum early (text_cell id))) × IsGiven late (cell value)

  -- and so are those of the rows below count
  abbrev pub AreRows : ℕ → (ℕ → Option TextId) → List U → List Bool → Type 0
  AreRows count row values present = (k : ℕ) → k < count → IsRow (row k) (option_at values present k)
