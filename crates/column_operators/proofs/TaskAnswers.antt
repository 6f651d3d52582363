-- What operators answer, from rows of values to columns of cells.
use Rattle.{
  column_core.{proofs.{cells.Common.{arith, ◌≡◌, ℕ, List, Option, Some, option_map, Result, Cell, Kind, datum, zero_division, column_of}, CellRows.{map-map, pairs-rows}}, specs.{Columns.{CellColumn, column_value, column_with}, Rows.{try_rows, map_rows}}},
  nullable_array.specs.{declared.ops.ArrayFault.{ArrayFault}, Answers.{Answers}},
  column_operators.specs.{declared.ops.Task.{Task}, Tasks.{task_cell, task_kind, task_column}},
}

-- an answer on the values of rows is the one on columns
pub pair_answer : {X Y U : Type 0} (texts : List (List ℕ)) (given task : Task) → given ≡ task → (ka kb kind : Kind) (ca : Option X → Cell) (cb : Option Y → Cell) (cu : Option U → Cell) (f : Option X → Option Y → Option (Option U))
    → task_kind task ka kb ≡ Some kind → ((x : Option X) (y : Option Y) → task_cell task (datum texts (ca x)) (datum texts (cb y)) ≡ option_map (λ z. datum texts (cu z)) (f x y))
    → (n m : ℕ) (p : ℕ → Option X) (q : ℕ → Option Y) → n ≡ m → (result : Result CellColumn ArrayFault)
    → Answers texts result (column_of kind zero_division (map_rows (λ z. datum texts (cu z)) (try_rows n (λ k. f (p k) (q k)))))
    → Answers texts result (task_column given (column_value texts (column_with ka ca n p)) (column_value texts (column_with kb cb m q)))
pair_answer = grind (arith, pairs-rows, map-map)

-- an answer on two columns is the one on the same columns
pub two_columns : (texts : List (List ℕ)) (task : Task) (x x' y y' : CellColumn) (result : Result CellColumn ArrayFault) → x ≡ x' → y ≡ y' → Answers texts result (task_column task (column_value texts x) (column_value texts y))
    → Answers texts result (task_column task (column_value texts x') (column_value texts y'))
two_columns = grind arith
