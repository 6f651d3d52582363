use Rattle.{
  frame_parts.proofs.Common.{refl},
  column_core.proofs.CellRows.{total_made},
}
use Rattle.frame_select.proofs.taking.chosen_rows.Goals as goal

pub returns-in-Ok : goal.returns-in-Ok
returns-in-Ok g c = total_made _ g.T.Element.cell _ _ _ _ _ _ _ (λ k. refl) c.in-Ok.ensures.rows c.in-Ok.ensures.count c.column.ensures
