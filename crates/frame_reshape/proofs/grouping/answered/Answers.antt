use Rattle.{
  frame_parts.proofs.Common.{arith, ◌∙◌, ap, sym, slice_get, take_all},
  frame_reshape.proofs.GroupCells.{more_answers, answers_inside},
}
use Rattle.frame_reshape.proofs.grouping.answered.Goals as goal

pub loop-group-preserved : goal.loop-group-preserved
loop-group-preserved c =
    more_answers c.args.cells.now.cells c.loop-group.group c.cell.result _ _ (ap (λ d. slice_get d.cells c.loop-group.group) (sym c.as_ref-column.ensures) ∙ c.cell.ensures.cell) c.loop-group.invariant c.in_ok-push_answered.ensures

pub returns-clause-groups : goal.returns-clause-groups
returns-clause-groups = grind (arith, take_all)

pub returns-clause-below : goal.returns-clause-below
returns-clause-below c = answers_inside c.args.cells.now.cells _ (grind (arith, take_all))
