use Rattle.{
  frame_parts.proofs.Common.{settled_later},
  frame_labels.proofs.ResetLaws.{labels_given},
}
use Rattle.frame_labels.proofs.resetting.reset_labels.Goals as goal

pub returns-clause-given : goal.returns-clause-given
returns-clause-given c =
    labels_given _ c.args.on.now _ _ c.in_ok-labels.ensures.given
    (search settled_later) c.in_ok-push_headings.ensures
