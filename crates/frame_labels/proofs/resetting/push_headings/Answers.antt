use Rattle.{
  frame_parts.proofs.Common.{arith},
  frame_labels.proofs.ResetLaws.{one_more_heading},
}
use Rattle.frame_labels.proofs.resetting.push_headings.Goals as goal

pub loop-place-preserved : goal.loop-place-preserved
loop-place-preserved c =
    one_more_heading c.args.on.now _ _ _ _ _ _ (omega arith) c.heading.ensures.value c.column_label.ensures c.in_ok-push.ensures.items c.loop-place.invariant
