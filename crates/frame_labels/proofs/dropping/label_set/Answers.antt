use Rattle.{
  frame_parts.proofs.Common.{◌<◌, length, arith},
  frame_labels.proofs.DropLaws.{one_more_label},
}
use Rattle.frame_labels.proofs.dropping.label_set.Goals as goal

pub loop-k-preserved : goal.loop-k-preserved
loop-k-preserved c = λ h.
    let lt : c.loop-k.k < length c.args.cells.now = omega arith in
    one_more_label _ _ _ _ _ _ h lt c.at.ensures c.from.ensures.0 c.in_ok-insert.ensures.keys (c.loop-k.invariant h)
