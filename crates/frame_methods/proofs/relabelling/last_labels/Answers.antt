use Rattle.{
  frame_parts.proofs.Common.{◌<◌, length, arith},
  frame_methods.proofs.RenameLaws.{labels_step},
}
use Rattle.frame_methods.proofs.relabelling.last_labels.Goals as goal

pub loop-key-preserved : goal.loop-key-preserved
loop-key-preserved c =
    let lt : c.loop-key.key-index < length c.args.pairs.now = omega arith in
    labels_step _ _ _ _ _ _ _ _ _
    c.len.ensures.distinct lt c.loop-key-item.is c.scalar.ensures c.name_of.ensures c.in_ok-insert.ensures.entries c.loop-key.invariant
