use Rattle.{
  frame_parts.proofs.Common.{arith},
  frame_labels.specs.Levels.{row_labels},
  frame_select.proofs.PickedLaws.{mapped_more},
}
use Rattle.frame_labels.proofs.row_groups.key_tuples.Goals as goal

pub loop-k-preserved : goal.loop-k-preserved
loop-k-preserved c = mapped_more (row_labels c.args.on.now c.args.keys.now) c.args.rows.now _ _ _ _ _ (omega arith) c.at.ensures c.row_tuple.ensures c.loop-k.invariant c.in_ok-push.ensures.ok
