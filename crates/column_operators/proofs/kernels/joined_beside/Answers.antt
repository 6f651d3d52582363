use Rattle.{
  column_core.{proofs.{cells.Common.{refl}, ColumnLaws.{given-row}}, specs.Columns.{text_cell}},
  column_operators.proofs.Scalars.{text_kept, scalar_on_left, scalar_on_right},
}
use Rattle.column_operators.specs.declared.ops.Task.TheVariants as task
use Rattle.column_operators.proofs.kernels.joined_beside.Goals as goal

pub joined-requires-clause-b : goal.joined-requires-clause-b
joined-requires-clause-b c = λ k lt. given-row _ _ _ c.requires.a k lt

pub joined-requires-else-left-clause-a : goal.joined-requires-else-left-clause-a
joined-requires-else-left-clause-a c = λ k lt. given-row _ _ _ c.requires.a k lt

pub returns-then-left-clause-answer : goal.returns-then-left-clause-answer
returns-then-left-clause-answer c =
    scalar_on_left _ task.Sum _ text_cell c.args.a.now.count _ _ _ _ (text_kept _ _) c.if-left.true c.joined.new.dict _ refl c.joined.ensures.answer

pub returns-else-left-clause-answer : goal.returns-else-left-clause-answer
returns-else-left-clause-answer c =
    scalar_on_right _ task.Sum _ text_cell c.args.a.now.count _ _ _ _ (text_kept _ _) c.if-left.false c.joined-else-left.new.dict _ refl c.joined-else-left.ensures.answer
