use Rattle.{
  frame_parts.proofs.Common.{◌<◌, length, arith, slice_get},
  multi_index.proofs.SideLaws.{tuple_there},
  frame_ops.proofs.WideLaws.{one_more_key},
}
use Rattle.frame_ops.proofs.widening.headings_of_keys.Goals as goal

pub loop-place-preserved : goal.loop-place-preserved
loop-place-preserved c =
    let lt : c.loop-place.place < length c.args.keys.now.tuples = omega arith in
    let there = tuple_there c.args.keys.now _ lt in
    one_more_key _ _ _ _ _ _ _ lt c.loop-place.invariant there
    (grind (arith, slice_get)) c.in_ok-push.ensures.ok
