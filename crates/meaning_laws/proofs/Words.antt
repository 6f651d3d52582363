-- Words of the laws.
use Rattle.{
  meaning_script.{proofs.cells.Common.{◌≡◌, ℕ, ◌<◌, List, length, Option, Result, IfOk, All, Series, Frame, CellValue, LabelValue, FaultValue}, specs.tables.{Table.{ColumnOf, Table}, Value.{Entry}}},
  meaning_laws.specs.Validity.{IsValidEntry},
}

abbrev pub Cells : Type 0
Cells = List CellValue

abbrev pub Column : Type 0
Column = ColumnOf CellValue

-- the name of a column or of a level, or none
abbrev pub Name : Type 0
Name = Option LabelValue

-- the label of a row, on each level
abbrev pub Tuple : Type 0
Tuple = List LabelValue

-- an answer that is a value is valid
abbrev pub Keeps : Result Entry FaultValue → Type 0
Keeps r = IfOk r IsValidEntry

-- places before an end
abbrev pub Below : ℕ → List ℕ → Type 0
Below count places = All (λ place. place < count) places

-- so many items, of each of which it holds
abbrev pub AllOf : {A : Type 0} → (A → Type 0) → ℕ → List A → Type 0
AllOf P count xs = (length xs ≡ count) × All P xs

-- labels on so many levels
abbrev pub Has : ℕ → Tuple → Type 0
Has count tuple = length tuple ≡ count

abbrev pub Levelled : ℕ → List Tuple → Type 0
Levelled count tuples = All (Has count) tuples

abbrev pub IsFrame : Table → Type 0
IsFrame t = t.shape ≡ Frame

abbrev pub IsSeries : Table → Type 0
IsSeries t = t.shape ≡ Series
