-- Columns of which each cell is made by itself.
use Rattle.{
  column_core.{proofs.{cells.Common.{◌≡◌, ◌∙◌, ◌<◌, ◌+◌, refl, ap, append_assoc, ℕ, ℤ, Bool, true, false, ◌||◌, List, [], ◌∷◌, ◌++◌, map, length, drop, get_or, Option, Some, Result, Ok, Err, IfOk, arith, drop-cons, list_any, int_eq, Cell, TextId, Kind, Boolean}, CellRows.{map-map, range-same}}, specs.Columns.{CellColumn, number_cell, truth_cell, text_cell, column_with}},
  column_operators.specs.Marks.{same_number, listed_value, listed_truth, numbers_among, text_before, texts_among},
}
use Rattle.cell_core.specs.declared.cell.Cell.TheVariants as cell
use Rattle.cell_core.specs.contracts.cell.TextIdPartialEq.TheImpl as id

pub mapped_column : {T U : Type 0} (kind : Kind) (made_kind : Kind) (cell_of : Option T → Cell) (made_cell : Option U → Cell) (f : Cell → Cell) (made : Option T → Option U) (n : ℕ) (row : ℕ → Option T) (whole : CellColumn)
    → ((x : Option T) → made_cell (made x) ≡ f (cell_of x)) → column_with kind cell_of n row ≡ whole
    → column_with made_kind made_cell n (λ k. made (row k)) ≡ record { kind = made_kind; cells = map f whole.cells }
mapped_column = grind (arith, range-same, map-map)

-- the same of an answer
pub if_mapped : {E T U : Type 0} (r : Result CellColumn E) (kind made_kind : Kind) (cell_of : Option T → Cell) (made_cell : Option U → Cell) (f : Cell → Cell) (made : Option T → Option U) (n : ℕ) (row : ℕ → Option T) (whole : CellColumn)
    → ((x : Option T) → made_cell (made x) ≡ f (cell_of x)) → column_with kind cell_of n row ≡ whole
    → IfOk r (λ c. c ≡ column_with made_kind made_cell n (λ k. made (row k))) → IfOk r (λ c. c ≡ record { kind = made_kind; cells = map f whole.cells })
if_mapped (Ok c) _ _ _ made_cell f _ n row _ law is e = e ∙ mapped_column _ _ _ made_cell f _ n row _ law is
if_mapped (Err x) _ _ _ _ f _ n _ _ _ _ e = e

-- the same where the kind stays
pub if_kept : {E T : Type 0} (r : Result CellColumn E) (kind : Kind) (cell_of : Option T → Cell) (f : Cell → Cell) (made : Option T → Option T) (n : ℕ) (row : ℕ → Option T) (whole : CellColumn)
    → ((x : Option T) → cell_of (made x) ≡ f (cell_of x)) → column_with kind cell_of n row ≡ whole
    → IfOk r (λ c. c ≡ column_with kind cell_of n (λ k. made (row k))) → IfOk r (λ c. c ≡ record { kind = whole.kind; cells = map f whole.cells })
if_kept (Ok c) kind cell_of f _ n row whole law is e =
    e ∙ mapped_column _ _ _ cell_of f _ n row _ law is ∙ ap (λ (k : Kind). record { kind = k; cells = map f whole.cells }) (ap (λ (w : CellColumn). w.kind) is)
if_kept (Err x) _ _ f _ n _ _ _ _ e = e

number_eq : (z y : ℤ) → int_eq y z ≡ same_number (cell.Int z) (cell.Int y)
number_eq = grind arith

text_eq : (a b : TextId) → id.eq-value.it b a ≡ same_number (cell.Text a) (cell.Text b)
text_eq = grind arith

-- a look-up among the numbers is one among the cells
among_numbers : (values : List Cell) (z : ℤ) → list_any (λ y. int_eq y z) (numbers_among values) ≡ list_any (same_number (cell.Int z)) values
among_numbers [] z = refl
among_numbers (cell.Na ∷ cs) z = among_numbers cs z
among_numbers (cell.Bool b ∷ cs) z = among_numbers cs z
among_numbers (cell.Text id ∷ cs) z = among_numbers cs z
among_numbers (cell.Int y ∷ cs) z = λ j. number_eq z y j || among_numbers cs z j

among_texts : (values : List Cell) (a : TextId) → list_any (λ b. id.eq-value.it b a) (texts_among values) ≡ list_any (same_number (cell.Text a)) values
among_texts [] a = refl
among_texts (cell.Na ∷ cs) a = among_texts cs a
among_texts (cell.Bool b ∷ cs) a = among_texts cs a
among_texts (cell.Int z ∷ cs) a = among_texts cs a
among_texts (cell.Text b ∷ cs) a = λ j. text_eq a b j || among_texts cs a j

pub number_listed : (values : List Cell) (missing : Bool) (numbers : List ℤ) → missing ≡ list_any (same_number cell.Na) values → numbers ≡ numbers_among values
    → (x : Option ℤ) → Some (listed_value int_eq missing numbers x) ≡ Some (list_any (same_number (number_cell x)) values)
number_listed = grind (arith, among_numbers)

pub text_listed : (values : List Cell) (missing : Bool) (texts : List TextId) → missing ≡ list_any (same_number cell.Na) values → texts ≡ texts_among values
    → (x : Option TextId) → Some (listed_value (λ a b. id.eq-value.it a b) missing texts x) ≡ Some (list_any (same_number (text_cell x)) values)
text_listed = grind (arith, among_texts)

pub truth_listed : (values : List Cell) (missing with_false with_true : Bool) → missing ≡ list_any (same_number cell.Na) values → with_false ≡ list_any (same_number (cell.Bool false)) values → with_true ≡ list_any (same_number (cell.Bool true)) values
    → (x : Option Bool) → Some (listed_truth missing with_false with_true x) ≡ Some (list_any (same_number (truth_cell x)) values)
truth_listed = grind arith

-- an answer whose rows are the same
pub if_same_rows : {E T : Type 0} (r : Result CellColumn E) (n : ℕ) (row : ℕ → Option T) (p q : Option T → Option Bool) → ((x : Option T) → p x ≡ q x)
    → IfOk r (λ c. c ≡ column_with Boolean truth_cell n (λ k. p (row k))) → IfOk r (λ c. c ≡ column_with Boolean truth_cell n (λ k. q (row k)))
if_same_rows = grind (arith, range-same)

pub text_step : (cells : List Cell) (i : ℕ) (c : Cell) (before after all : List TextId) → i < length cells → c ≡ get_or cells i c → after ≡ before ++ text_before c []
    → before ++ texts_among (drop i cells) ≡ all → after ++ texts_among (drop (i + 1) cells) ≡ all
text_step = grind (arith, append_assoc, drop-cons)
