use Rattle.{
  frame_parts.proofs.Common.{arith},
  frame_labels.proofs.ResetLaws.{label_settled, label_met, label_passed},
}
use Rattle.frame_labels.proofs.resetting.has_label.Goals as goal

pub same_heading-requires-clause-b : goal.same_heading-requires-clause-b
same_heading-requires-clause-b c = search label_settled

pub returns-then-same_heading : goal.returns-then-same_heading
returns-then-same_heading = grind (arith, label_met)

pub loop-place-preserved : goal.loop-place-preserved
loop-place-preserved = grind (arith, label_passed)
