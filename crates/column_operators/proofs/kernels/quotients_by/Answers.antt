use Rattle.{
  column_core.{proofs.cells.Common.{arith, pos, Some, refl, Int64}, specs.Columns.{number_cell}},
  column_operators.proofs.{TaskAnswers.{pair_answer}, Laws.{quotient_law}},
}
use Rattle.column_operators.specs.declared.ops.Task.TheVariants as task
use Rattle.column_operators.proofs.kernels.quotients_by.Goals as goal

pub returns-clause-answer : goal.returns-clause-answer
returns-clause-answer g c = λ texts.
    let count = g.A.Source.count_of c.args.a in
    pair_answer texts _ task.Quotient refl Int64 Int64 Int64 number_cell number_cell number_cell _ refl (quotient_law texts) count count _ (λ k. Some (pos _)) refl _
    (grind arith)
