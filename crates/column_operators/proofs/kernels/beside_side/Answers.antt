use Rattle.{
  column_core.proofs.cells.Common.{refl},
  column_operators.proofs.Scalars.{scalar_on_left, scalar_on_right},
}
use Rattle.column_operators.proofs.kernels.beside_side.Goals as goal

pub returns-then-left-clause-answer : goal.returns-then-left-clause-answer
returns-then-left-clause-answer g c = λ texts.
    scalar_on_left _ _ _ g.T.Element.cell _ _ _ _ _ (g.met.T.Operand.kept texts _) c.if-left.true texts _ c.count.ensures (c.on_sides.ensures.answer texts)

pub returns-else-left-clause-answer : goal.returns-else-left-clause-answer
returns-else-left-clause-answer g c = λ texts.
    scalar_on_right _ _ _ g.T.Element.cell _ _ _ _ _ (g.met.T.Operand.kept texts _) c.if-left.false texts _ refl (c.on_side_before.ensures.answer texts)
