use Rattle.{
  frame_parts.proofs.Common.{ap, arith, length, length-set},
  frame_reshape.proofs.StackLaws.{label_written},
}
use Rattle.frame_reshape.proofs.stacking.stacked_tuple.Goals as goal

pub loop-level-preserved : goal.loop-level-preserved
loop-level-preserved c = record {
  room = search length-set;
  so_far = label_written c.args.on.now c.axis-axis.result.now c.levels-levels.result c.args.row c.loop-level.labels _ c.axis-axis.ensures c.levels-levels.ensures.alike c.requires.row
      (omega (arith, c.levels-levels.ensures.count, ap (λ a. length a.names) c.axis-axis.ensures, c.requires.few)) c.loop-level.invariant.room c.loop-level.level (omega arith) c.label.ensures c.loop-level.invariant.so_far;
}
