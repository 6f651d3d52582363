use Rattle.{
  meaning_cells.proofs.Common.{◌∙◌, IfOk-weaker},
  column_core.proofs.CellRows.{same_column},
}
use Rattle.column_core.proofs.moves.copied_lane.Goals as goal

pub returns-in-Some : goal.returns-in-Some
returns-in-Some g c =
    IfOk-weaker c.copied_side.result _ _
    (λ m h. h ∙ same_column _ g.T.Element.cell _ _ _ _ c.in-Some.ensures.count c.in-Some.ensures.rows) c.copied_side.ensures
