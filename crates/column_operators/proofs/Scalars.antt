-- A scalar beside each cell of a column.
use Rattle.{
  column_core.{proofs.{cells.Common.{arith, ◌≡◌, ℕ, zero, suc, ◌+◌, Bool, true, false, List, length, map, replicate, refl, sym, ap, ◌∙◌, Option, Result, length-map, range_with_len, Cell, Kind, TextId, CellValue, datum, tabulate, scalar_kind, scalar_column}, ColumnLaws.{length-tabulate}}, specs.Columns.{CellColumn, column_value, column_with, text_cell}},
  cell_core.specs.declared.cell.Kind.TheVariants.{Text as string},
  nullable_array.specs.{declared.ops.ArrayFault.{ArrayFault}, Answers.{Answers}},
  column_operators.specs.{declared.ops.Task.{Task}, Tasks.{task_column, scalar_task}},
}

pub text_kept : (texts : List (List ℕ)) (x : Option TextId) → scalar_kind string (datum texts (text_cell x)) ≡ string
text_kept = grind arith

repeated : (texts : List (List ℕ)) (c : Cell) (a n : ℕ) → map (datum texts) (map (λ (k : ℕ). c) (range_with_len a n)) ≡ replicate n (datum texts c)
repeated _ c a zero = refl
repeated texts c a (suc n) = cc (repeated texts c (a + 1) n)

-- one value in each row is the scalar beside each cell
scalar_rows : {T : Type 0} (texts : List (List ℕ)) (kind : Kind) (cell : Option T → Cell) (n : ℕ) (p : ℕ → Option T) (s : Option T) → scalar_kind kind (datum texts (cell s)) ≡ kind
    → column_value texts (column_with kind cell n (λ k. s)) ≡ scalar_column (column_value texts (column_with kind cell n p)) (datum texts (cell s))
scalar_rows texts kind cell n p s kept =
    ap (λ (l : List CellValue). record { kind = kind; cells = l }) (cc (repeated texts (cell s) 0 n, length-map (tabulate n (λ k. cell (p k))) (datum texts), length-tabulate n (λ k. cell (p k))))
    ∙ ap (λ (k : Kind). record { kind = k; cells = replicate (length (map (datum texts) (tabulate n (λ k. cell (p k))))) (datum texts (cell s)) }) (sym kept)

-- an answer with one value in each row of the left column, or of the right one
pub scalar_on_left : {T : Type 0} (texts : List (List ℕ)) (task : Task) (kind : Kind) (cell : Option T → Cell) (n : ℕ) (p : ℕ → Option T) (s : Option T) (left : Bool) (result : Result CellColumn ArrayFault) → scalar_kind kind (datum texts (cell s)) ≡ kind → left ≡ true
    → (new : List (List ℕ)) (m : ℕ) → m ≡ n → Answers new result (task_column task (column_value texts (column_with kind cell m (λ k. s))) (column_value texts (column_with kind cell n p)))
    → Answers new result (scalar_task task (column_value texts (column_with kind cell n p)) (datum texts (cell s)) left)
scalar_on_left = grind (arith, scalar_rows)

pub scalar_on_right : {T : Type 0} (texts : List (List ℕ)) (task : Task) (kind : Kind) (cell : Option T → Cell) (n : ℕ) (p : ℕ → Option T) (s : Option T) (left : Bool) (result : Result CellColumn ArrayFault) → scalar_kind kind (datum texts (cell s)) ≡ kind → left ≡ false
    → (new : List (List ℕ)) (m : ℕ) → m ≡ n → Answers new result (task_column task (column_value texts (column_with kind cell n p)) (column_value texts (column_with kind cell m (λ k. s))))
    → Answers new result (scalar_task task (column_value texts (column_with kind cell n p)) (datum texts (cell s)) left)
scalar_on_right = grind (arith, scalar_rows)
