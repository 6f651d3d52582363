use Rattle.{
  frame_parts.proofs.Common.{[]},
  frame_make.proofs.FrameLaws.{axis_rows},
}
use Rattle.frame_make.proofs.frames.frame_axis.Goals as goal

pub returns-clause-rows : goal.returns-clause-rows
returns-clause-rows c = axis_rows [] _ _ _ _ _ (c.in_ok-rows.ensures []) (c.axis_for.ensures.labels [])
