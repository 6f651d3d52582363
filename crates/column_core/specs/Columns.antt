-- A column as contracts see it: its kind and its cells, whose texts are numbers of a dictionary.
use Rattle.std.specs.Prelude.{ℕ, ℤ, Bool, List, map, Option, Some, None}
use Rattle.cell_core.specs.declared.cell.Kind.{Kind}
use Rattle.cell_core.specs.declared.cell.TextId.{TextId}
use Rattle.cell_core.specs.declared.cell.Cell.{Cell}
use Rattle.cell_core.specs.declared.cell.Cell.TheVariants as cell
use Rattle.meaning_cells.specs.Cell.{CellValue, na_cell, datum, IsGiven}
use Rattle.meaning_cells.specs.Cell as value
use Rattle.meaning_cells.specs.Column.{ColumnValue, tabulate}

pub record CellColumn : Type 0 where
  pub kind : Kind
  pub cells : List Cell

-- what the column holds, where these are the texts by number
abbrev pub column_value : List (List ℕ) → CellColumn → ColumnValue
column_value texts c = record { kind = c.kind; cells = map (datum texts) c.cells }

-- a value of each kind as a cell
abbrev pub number_cell : Option ℤ → Cell
number_cell None = cell.Na
number_cell (Some z) = cell.Int z

abbrev pub truth_cell : Option Bool → Cell
truth_cell None = cell.Na
truth_cell (Some b) = cell.Bool b

abbrev pub text_cell : Option TextId → Cell
text_cell None = cell.Na
text_cell (Some id) = cell.Text id

-- a column of so many rows
abbrev pub column_with : {T : Type 0} → Kind → (Option T → Cell) → ℕ → (ℕ → Option T) → CellColumn
column_with kind cell count row = record { kind = kind; cells = tabulate count (λ k. cell (row k)) }

-- numbers and truth values need no dictionary
pub number_given : (texts : List (List ℕ)) (x : Option ℤ) → IsGiven texts (number_cell x)
number_given texts None = tt
number_given texts (Some z) = tt

pub truth_given : (texts : List (List ℕ)) (x : Option Bool) → IsGiven texts (truth_cell x)
truth_given texts None = tt
truth_given texts (Some b) = tt

-- a text, where there is one
abbrev pub text_value : Option (List ℕ) → CellValue
text_value None = na_cell
text_value (Some t) = value.text_cell t
