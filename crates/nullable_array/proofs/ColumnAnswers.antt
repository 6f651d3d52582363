-- What kernels answer, from rows of values to columns of cells.
use Rattle.{
  column_core.{proofs.{cells.Common.{suc, [], ◌∷◌, map, arith, ◌≡◌, ℕ, ℤ, List, refl, Option, Some, option_map, Result, Ok, Err, IfOk, range_with_len, Cell, Kind, Int64, CellValue, datum, AreGiven, ColumnValue, tabulate, try_each, column_of, cast_cell, cast_column}, ColumnLaws.{given-plain}, CellRows.{map-map, each-rows}}, specs.{cells.Column.{not_cast}, Columns.{text_value, CellColumn, column_value, column_with, number_cell, number_given}, Rows.{try_rows, map_rows}}},
  nullable_array.specs.{declared.ops.ArrayFault.{ArrayFault}, Answers.{Answers}},
}

-- given in each dictionary, so in one
pub given_at : (r : Result CellColumn ArrayFault) (texts : List (List ℕ)) → IfOk r (λ c. (ts : List (List ℕ)) → AreGiven ts c.cells) → IfOk r (λ c. AreGiven texts c.cells)
given_at (Ok c) texts g = g texts
given_at (Err e) _ g = g

-- a column of numbers is given in each dictionary
pub numbers_given : (n : ℕ) (rows : ℕ → Option ℤ) (col : CellColumn) → col ≡ column_with Int64 number_cell n rows → (texts : List (List ℕ)) → AreGiven texts col.cells
numbers_given n rows col e texts = given-plain _ _ _ _ _ _ (number_given _) e

-- a cast of which each row has its cell
cells_cast : (kind : Kind) (f w : ℕ → CellValue) → ((k : ℕ) → cast_cell kind (f k) ≡ Some (w k)) → (row : ℕ) (ks : List ℕ) → try_each (cast_cell kind) row (map f ks) ≡ Ok (map w ks)
cells_cast kind f w law row [] = refl
cells_cast kind f w law row (k ∷ ks) = cc (law k, cells_cast kind f w law (suc row) ks)

module _ {X : Type 0} (texts : List (List ℕ)) (given kind : Kind) (is : given ≡ kind) (ca : Option X → Cell) (n : ℕ) (p : ℕ → Option X) where
  total_cast : (k0 : Kind) (w : Option X → CellValue) → ((x : Option X) → cast_cell kind (datum texts (ca x)) ≡ Some (w x)) → cast_column given (column_value texts (column_with k0 ca n p)) ≡ Ok record { kind = kind; cells = tabulate n (λ k. w (p k)) }
  total_cast k0 w law = cc (is, map-map (λ k. ca (p k)) (datum texts) (range_with_len 0 n), cells_cast kind (λ k. datum texts (ca (p k))) (λ k. w (p k)) (λ k. law (p k)) 0 (range_with_len 0 n))

  -- to texts
  pub text_cast : (k0 : Kind) (f : X → List ℕ) (v : ColumnValue) → v ≡ record { kind = kind; cells = tabulate n (λ k. text_value (option_map f (p k))) } → ((x : Option X) → cast_cell kind (datum texts (ca x)) ≡ Some (text_value (option_map f x))) → cast_column given (column_value texts (column_with k0 ca n p)) ≡ Ok v
  text_cast k0 f v made law = cc (total_cast k0 (λ x. text_value (option_map f x)) law)

  -- to the kind of the column
  pub kept_cast : (col : CellColumn) → col ≡ column_with kind ca n p → ((x : Option X) → cast_cell kind (datum texts (ca x)) ≡ Some (datum texts (ca x))) → cast_column given (column_value texts (column_with kind ca n p)) ≡ Ok (column_value texts col)
  kept_cast col made law = cc (total_cast kind (λ x. datum texts (ca x)) law, map-map (λ k. ca (p k)) (datum texts) (range_with_len 0 n))

-- a cast that may be refused: an answer on the values of rows is the one on the column
pub cast_answer : {X U : Type 0} (texts : List (List ℕ)) (given kind : Kind) → given ≡ kind → (k0 : Kind) (ca : Option X → Cell) (cu : Option U → Cell) (f : Option X → Option (Option U))
    → ((x : Option X) → cast_cell kind (datum texts (ca x)) ≡ option_map (λ z. datum texts (cu z)) (f x)) → (n : ℕ) (p : ℕ → Option X) (result : Result CellColumn ArrayFault)
    → Answers texts result (column_of kind not_cast (map_rows (λ z. datum texts (cu z)) (try_rows n (λ k. f (p k))))) → Answers texts result (cast_column given (column_value texts (column_with k0 ca n p)))
cast_answer = grind (arith, each-rows, map-map)
