use Rattle.{
  frame_parts.proofs.Common.{refl},
  frame_make.proofs.FrameLaws.{rows_differ},
}
use Rattle.frame_make.proofs.frames.common_rows.Goals as goal

pub returns-then-got-rows : goal.returns-then-got-rows
returns-then-got-rows c = λ texts. (rows_differ _ _ _ _ _ _ _ c.requires c.at-in-loop-place.ensures c.rows-got.ensures (c.loop-place.invariant texts) c.if-got-rows.true, λ more. refl)
