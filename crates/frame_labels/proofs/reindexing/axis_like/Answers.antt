use Rattle.{
  frame_parts.proofs.Common.{◌<◌, ap, length, arith, None, length-set, get_or_from_slice_get},
  frame_labels.proofs.ReindexLaws.{one_more_name},
}
use Rattle.frame_labels.proofs.reindexing.axis_like.Goals as goal

pub loop-level-preserved : goal.loop-level-preserved
loop-level-preserved c =
    let names = c.args.like.now.names in
    let level = c.loop-level.level in
    let lt : level < length names = omega arith in
    record {
      tuples = grind arith;
      size = grind (arith, length-set);
      names = one_more_name _ _ _ _ _ None (omega (arith, c.loop-level.invariant.size, lt)) lt (grind (arith, get_or_from_slice_get)) c.loop-level.invariant.names (ap (λ a. a.names) c.set_name.ensures);
    }
