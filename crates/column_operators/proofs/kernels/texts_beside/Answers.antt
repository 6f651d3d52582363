use Rattle.{
  column_core.{proofs.cells.Common.{refl}, specs.Columns.{text_cell}},
  cell_core.specs.declared.cell.Kind.TheVariants.{Text as string},
  column_operators.proofs.Scalars.{text_kept, scalar_on_left, scalar_on_right},
}
use Rattle.column_operators.proofs.kernels.texts_beside.Goals as goal

pub returns-then-left-clause-answer : goal.returns-then-left-clause-answer
returns-then-left-clause-answer c =
    scalar_on_left _ c.args.task string text_cell _ _ _ c.args.left _ (text_kept _ _) c.if-left.true c.args.dict.now _ refl c.on_texts.ensures.answer

pub returns-else-left-clause-answer : goal.returns-else-left-clause-answer
returns-else-left-clause-answer c =
    scalar_on_right _ c.args.task string text_cell _ _ _ c.args.left _ (text_kept _ _) c.if-left.false c.args.dict.now _ refl c.on_texts-else-left.ensures.answer
