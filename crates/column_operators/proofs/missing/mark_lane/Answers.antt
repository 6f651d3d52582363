use Rattle.{
  column_core.{proofs.{cells.Common.{◌∙◌, ap, Some, IfOk-weaker}, CellRows.{same_column}}, specs.Columns.{truth_cell}},
  column_operators.specs.Marks.{mark_of},
}
use Rattle.column_operators.proofs.missing.mark_lane.Goals as goal

pub returns-in-Some : goal.returns-in-Some
returns-in-Some g c =
    IfOk-weaker c.mark_side.result _ _
    (λ m h. h ∙ same_column _ truth_cell _ _ _ _ c.in-Some.ensures.count (λ k lt. ap (λ x. Some (mark_of c.args.mark.now.missing x)) (c.in-Some.ensures.rows k lt))) c.mark_side.ensures
