use Rattle.{
  frame_parts.proofs.Common.{length-set, ◌<◌, length, arith},
  frame_set.proofs.GrowLaws.{put_keeps, put_kind, put_more},
}
use Rattle.frame_set.proofs.growing.new_column.Goals as goal

pub loop-k-preserved : goal.loop-k-preserved
loop-k-preserved c =
    let lt : c.loop-k.k < length c.args.values.now = omega (arith, c.requires.count) in
    let single = c.loop-k.invariant.single in
    record {
      single = search put_keeps;
      rows = grind (arith, length-set);
      kind = grind (arith, put_kind);
      values = search put_more;
    }
