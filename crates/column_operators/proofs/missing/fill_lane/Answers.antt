use Rattle.column_core.proofs.{cells.Common.{arith, ◌∙◌, IfOk-weaker}, CellRows.{same_column}}
use Rattle.column_operators.proofs.missing.fill_lane.Goals as goal

pub returns-in-Some : goal.returns-in-Some
returns-in-Some g c =
    IfOk-weaker c.fill_side.result _ _
    (λ m h. h ∙ same_column _ g.T.Element.cell _ _ _ _ c.in-Some.ensures.count (λ k lt. grind arith)) c.fill_side.ensures
