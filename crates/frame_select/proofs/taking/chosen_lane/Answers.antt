use Rattle.{
  frame_parts.proofs.Common.{refl, length, slice_index},
  column_core.proofs.CellRows.{same_column},
}
use Rattle.frame_select.proofs.taking.chosen_lane.Goals as goal

pub returns-in-Some : goal.returns-in-Some
returns-in-Some g c =
    let places = c.args.places.now in
    rw (← same_column g.T.Element.kind g.T.Element.cell (length places) (length places) _ _ refl (λ k lt. c.in-Some.ensures.rows (slice_index places k) (c.requires k 0 lt))) c.chosen_rows.ensures
