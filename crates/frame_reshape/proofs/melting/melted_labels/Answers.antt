use Rattle.{
  frame_parts.proofs.Common.{codes},
  frame_reshape.proofs.MeltNames.{labels_meant, labels_given, text_grown},
}
use Rattle.frame_reshape.proofs.melting.melted_labels.Goals as goal

pub returns-clause-labels : goal.returns-clause-labels
returns-clause-labels c =
    labels_meant _ _ _ c.args.on.now c.args.kept.now _ _ _ _ _ c.in_ok-name.ensures.longer (text_grown _ _ (codes "value") c.in_ok-value.ensures.texts) c.requires.known.given c.in_ok-name.ensures.label c.in_ok-name.ensures.given c.in_ok-value.ensures.given c.in_ok-labels.ensures c.in_ok-push.ensures.items c.in_ok-push-2.ensures.items

pub returns-clause-given : goal.returns-clause-given
returns-clause-given c =
    labels_given _ _ _ c.args.on.now c.args.kept.now _ _ _ _ _ c.in_ok-name.ensures.longer (text_grown _ _ (codes "value") c.in_ok-value.ensures.texts) c.requires.known.given c.in_ok-name.ensures.label c.in_ok-name.ensures.given c.in_ok-value.ensures.given c.in_ok-labels.ensures c.in_ok-push.ensures.items c.in_ok-push-2.ensures.items
