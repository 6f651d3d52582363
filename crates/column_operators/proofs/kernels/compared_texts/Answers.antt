use Rattle.{
  column_core.{proofs.cells.Common.{arith, refl, nat_cmp, slice_cmp, text_of}, specs.Columns.{text_cell}},
  cell_core.specs.declared.cell.Kind.TheVariants.{Text as string},
  column_operators.{specs.Operations.{compare_row}, proofs.TaskAnswers.{pair_answer}},
  nullable_array.proofs.ColumnAnswers.{given_at},
}
use Rattle.column_operators.specs.declared.ops.Task.TheVariants as task
use Rattle.column_operators.proofs.kernels.compared_texts.Goals as goal

pub returns-clause-given : goal.returns-clause-given
returns-clause-given g c = given_at _ _ c.operate.ensures.given

pub returns-clause-answer : goal.returns-clause-answer
returns-clause-answer g c =
    let texts = c.args.dict.now in
    let r = c.args.relation in
    pair_answer _ _ (task.Compare r) refl string string _ text_cell text_cell _ (compare_row r (λ a b. slice_cmp nat_cmp (text_of texts a) (text_of texts b))) refl (grind arith) _ _ _ _ c.requires.same _ (c.operate.ensures.answer texts)
