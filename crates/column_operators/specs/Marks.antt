-- Marks of cells, and cells in place of missing ones. Texts are told apart by their numbers.
use Rattle.std.specs.Prelude.{◌≡◌, ℕ, ℤ, Bool, true, false, not, ◌||◌, List, [], ◌∷◌, Option, Some, None, unwrap_or, is_some, if◌then◌else◌}
use Rattle.std.specs.List.{list_any}
use Rattle.cell_core.specs.declared.cell.Cell.{Cell}
use Rattle.cell_core.specs.declared.cell.Cell.TheVariants as cell
use Rattle.cell_core.specs.declared.cell.TextId.{TextId}
use Rattle.cell_core.specs.declared.cell.Kind.TheVariants.{Boolean}
use Rattle.cell_core.specs.contracts.cell.CellPartialEq.TheImpl.{eq-value}
use Rattle.std.proofs.Common.{refl}
use Rattle.column_core.specs.Columns.{CellColumn, truth_cell, column_with}
use Rattle.column_core.specs.Rows.{flagged}

-- whether a cell is missing, or is there
abbrev pub missing_mark : Bool → Cell → Cell
missing_mark missing cell.Na = cell.Bool missing
missing_mark missing (cell.Int z) = cell.Bool (not missing)
missing_mark missing (cell.Bool b) = cell.Bool (not missing)
missing_mark missing (cell.Text id) = cell.Bool (not missing)

-- a cell in place of a missing one
abbrev pub filled_cell : Cell → Cell → Cell
filled_cell value cell.Na = value
filled_cell value (cell.Int z) = cell.Int z
filled_cell value (cell.Bool b) = cell.Bool b
filled_cell value (cell.Text id) = cell.Text id

-- equal cells, where equal texts have one number
abbrev pub same_number : Cell → Cell → Bool
same_number a b = eq-value.it a b

-- whether a cell is among these
abbrev pub listed_mark : List Cell → Cell → Cell
listed_mark values c = cell.Bool (list_any (same_number c) values)

-- the mark of a row by whether its value is missing
abbrev pub mark_of : {T : Type 0} → Bool → Option T → Bool
mark_of missing None = missing
mark_of missing (Some x) = not missing

abbrev pub filled_value : {T : Type 0} → Option T → Option T → Option T
filled_value value None = value
filled_value value (Some x) = Some x

-- the same by flags
pub mark_pair : {T : Type 0} (missing : Bool) (x : T) (p : Bool) → Some (Some (mark_of missing (flagged p x))) ≡ Some (flagged true (if p then not missing else missing))
mark_pair missing x true = refl
mark_pair missing x false = refl

pub filled_pair : {T : Type 0} (value : Option T) (x : T) (p : Bool) → Some (filled_value value (flagged p x)) ≡ Some (flagged (p || is_some value) (if p then x else unwrap_or value x))
filled_pair value x true = refl
filled_pair None x false = refl
filled_pair (Some y) x false = refl

-- whether a value is among these, and the mark of a missing one
abbrev pub listed_value : {T : Type 0} → (T → T → Bool) → Bool → List T → Option T → Bool
listed_value eq missing values None = missing
listed_value eq missing values (Some x) = list_any (λ y. eq y x) values

abbrev pub listed_truth : Bool → Bool → Bool → Option Bool → Bool
listed_truth missing with_false with_true None = missing
listed_truth missing with_false with_true (Some false) = with_false
listed_truth missing with_false with_true (Some true) = with_true

-- whether each row's cell is among these
abbrev pub listed_rows : {T : Type 0} → List Cell → (Option T → Cell) → ℕ → (ℕ → Option T) → CellColumn
listed_rows values cell count row = column_with Boolean truth_cell count (λ k. Some (list_any (same_number (cell (row k))) values))

-- the numbers and the texts among cells
abbrev pub number_before : Cell → List ℤ → List ℤ
number_before (cell.Int z) rest = z ∷ rest
number_before cell.Na rest = rest
number_before (cell.Bool b) rest = rest
number_before (cell.Text id) rest = rest

abbrev pub numbers_among : List Cell → List ℤ
numbers_among [] = []
numbers_among (c ∷ cs) = number_before c (numbers_among cs)

abbrev pub text_before : Cell → List TextId → List TextId
text_before (cell.Text id) rest = id ∷ rest
text_before cell.Na rest = rest
text_before (cell.Int z) rest = rest
text_before (cell.Bool b) rest = rest

abbrev pub texts_among : List Cell → List TextId
texts_among [] = []
texts_among (c ∷ cs) = text_before c (texts_among cs)
