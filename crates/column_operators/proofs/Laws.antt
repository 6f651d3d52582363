-- What an operation makes of values is what the operator makes of their cells.
use Rattle.{
  column_core.{proofs.cells.Common.{arith, ◌≡◌, ℕ, Bool, not, List, ◌++◌, ℤ, ◌+ℤ◌, Option, Some, option_map, text_of, TextId, datum, invert_cell}, specs.{cells.Operator.{division_cells, floor_quotient, floor_rest}, Columns.{number_cell, truth_cell, text_cell, text_value}}},
  column_operators.specs.{declared.ops.Task.TheVariants.{Sum, Quotient, Rest}, Tasks.{task_cell}, Operations.{number_row, division_row, not_row, both}},
}

module _ (texts : List (List ℕ)) where
  pub sum_law : (x y : Option ℤ) → task_cell Sum (datum texts (number_cell x)) (datum texts (number_cell y)) ≡ option_map (λ z. datum texts (number_cell z)) (number_row (λ a b. a +ℤ b) x y)
  sum_law = grind arith

  division_law : (f : ℤ → ℤ → ℤ) (x y : Option ℤ) → division_cells f (datum texts (number_cell x)) (datum texts (number_cell y)) ≡ option_map (λ z. datum texts (number_cell z)) (division_row f x y)
  division_law = grind arith

  pub quotient_law : (x y : Option ℤ) → task_cell Quotient (datum texts (number_cell x)) (datum texts (number_cell y)) ≡ option_map (λ z. datum texts (number_cell z)) (division_row floor_quotient x y)
  quotient_law = search division_law

  pub rest_law : (x y : Option ℤ) → task_cell Rest (datum texts (number_cell x)) (datum texts (number_cell y)) ≡ option_map (λ z. datum texts (number_cell z)) (division_row floor_rest x y)
  rest_law x y = division_law _ x y

  pub not_law : (x : Option Bool) → datum texts (truth_cell (option_map not x)) ≡ invert_cell (datum texts (truth_cell x))
  not_law = grind arith

  pub join_law : (x y : Option TextId) → task_cell Sum (datum texts (text_cell x)) (datum texts (text_cell y)) ≡ Some (text_value (both (λ a b. text_of texts a ++ text_of texts b) x y))
  join_law = grind arith

-- an opposite is always there
pub not_some : (x : Option Bool) → not_row x ≡ Some (option_map not x)
not_some = grind arith
