use Rattle.{
  column_core.{proofs.cells.Common.{arith, refl, bool_cmp, Boolean}, specs.Columns.{truth_cell}},
  column_operators.{specs.Operations.{compare_row, and_row, or_row, xor_row}, proofs.TaskAnswers.{pair_answer}},
}
use Rattle.column_operators.proofs.kernels.BoolOperand.on_sides.Goals as goal

pub returns-in-Both-clause-answer : goal.returns-in-Both-clause-answer
returns-in-Both-clause-answer g c = λ texts. pair_answer _ _ _ c.in-Both.is Boolean _ _ truth_cell truth_cell _ and_row refl (grind arith) _ _ _ _ c.requires _ (c.operate_vectors.ensures.answer texts)

pub returns-in-Either-clause-answer : goal.returns-in-Either-clause-answer
returns-in-Either-clause-answer g c = λ texts. pair_answer _ _ _ c.in-Either.is Boolean _ _ truth_cell truth_cell _ or_row refl (grind arith) _ _ _ _ c.requires _ (c.operate_vectors-in-Either.ensures.answer texts)

pub returns-in-OneOf-clause-answer : goal.returns-in-OneOf-clause-answer
returns-in-OneOf-clause-answer g c = λ texts. pair_answer _ _ _ c.in-OneOf.is Boolean _ _ truth_cell truth_cell _ xor_row refl (grind arith) _ _ _ _ c.requires _ (c.operate_vectors-in-OneOf.ensures.answer texts)

pub returns-in-Compare-clause-answer : goal.returns-in-Compare-clause-answer
returns-in-Compare-clause-answer g c = λ texts. pair_answer _ _ _ c.in-Compare.is Boolean _ _ truth_cell truth_cell _ (compare_row c.in-Compare.relation bool_cmp) refl (grind arith) _ _ _ _ c.requires _ (c.compare_sides.ensures.answer texts)
