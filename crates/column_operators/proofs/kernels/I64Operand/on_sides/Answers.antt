use Rattle.{
  column_core.{proofs.cells.Common.{arith, refl, ◌+ℤ◌, ◌-ℤ◌, ◌*ℤ◌, int_cmp, Int64}, specs.Columns.{number_cell}},
  column_operators.{specs.Operations.{number_row, compare_row}, proofs.{TaskAnswers.{pair_answer}, Laws.{sum_law}}},
}
use Rattle.column_operators.proofs.kernels.I64Operand.on_sides.Goals as goal

pub returns-in-Sum-clause-answer : goal.returns-in-Sum-clause-answer
returns-in-Sum-clause-answer g c = λ texts. pair_answer _ _ _ c.in-Sum.is Int64 _ _ _ _ _ (number_row (λ x y. x +ℤ y)) refl (sum_law _) _ _ _ _ c.requires _ (c.operate_vectors.ensures.answer texts)

pub returns-in-Difference-clause-answer : goal.returns-in-Difference-clause-answer
returns-in-Difference-clause-answer g c = λ texts. pair_answer _ _ _ c.in-Difference.is Int64 _ _ number_cell number_cell _ (number_row (λ x y. x -ℤ y)) refl (grind arith) _ _ _ _ c.requires _ (c.operate_vectors-in-Difference.ensures.answer texts)

pub returns-in-Product-clause-answer : goal.returns-in-Product-clause-answer
returns-in-Product-clause-answer g c = λ texts. pair_answer _ _ _ c.in-Product.is Int64 _ _ number_cell number_cell _ (number_row (λ x y. x *ℤ y)) refl (grind arith) _ _ _ _ c.requires _ (c.operate_vectors-in-Product.ensures.answer texts)

pub returns-in-Compare-clause-answer : goal.returns-in-Compare-clause-answer
returns-in-Compare-clause-answer g c = λ texts. pair_answer _ _ _ c.in-Compare.is Int64 _ _ number_cell number_cell _ (compare_row c.in-Compare.relation int_cmp) refl (grind arith) _ _ _ _ c.requires _ (c.compare_sides.ensures.answer texts)
