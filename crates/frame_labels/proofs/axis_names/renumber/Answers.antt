use Rattle.{
  frame_parts.proofs.Common.{rules},
  frame_labels.proofs.ResetLaws.{renumbered_made},
}
use Rattle.frame_labels.proofs.axis_names.renumber.Goals as goal

pub returns : goal.returns
returns c = λ texts settled. (
  c.in_ok-under_axis.ensures.fits,
  renumbered_made _ _ _ _ _ c.in_ok-axis.ensures c.rows-2.ensures (search rules) settled c.in_ok-under_axis.ensures.table,
)
