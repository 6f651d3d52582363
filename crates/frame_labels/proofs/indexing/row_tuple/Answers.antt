use Rattle.{
  frame_parts.proofs.Common.{◌<◌, length, refl, arith, length-set},
  frame_labels.proofs.{ReindexLaws.{one_more_name}, IndexingLaws.{label_at, labels_count}},
}
use Rattle.frame_labels.proofs.indexing.row_tuple.Goals as goal

pub loop-level-preserved : goal.loop-level-preserved
loop-level-preserved c =
    let lt : c.loop-level.level < length c.args.places.now = omega (arith, c.loop-level-test.true, c.len-levels.ensures) in
    record {
      room = search length-set;
      so_far = one_more_name _ _ _ _ _ c.from.result (omega (arith, lt, c.loop-level.invariant.room, c.requires.few)) (omega (arith, lt, labels_count c.args.on.now c.args.places.now c.args.row))
          (search label_at) c.loop-level.invariant.so_far refl;
    }
