use Rattle.column_core.proofs.{cells.Common.{arith, ◌∙◌, IfOk-weaker}, CellRows.{same_column}}
use Rattle.column_operators.proofs.maps.map_lane.Goals as goal

pub returns-in-Some : goal.returns-in-Some
returns-in-Some g c =
    IfOk-weaker c.map_rows.result _ _
    (λ m h. h ∙ same_column _ g.U.Element.cell _ _ _ _ c.in-Some.ensures.count (λ k lt. grind arith)) c.map_rows.ensures
