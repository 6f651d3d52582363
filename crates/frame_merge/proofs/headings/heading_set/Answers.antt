use Rattle.frame_merge.proofs.KeyLaws.{one_more_among}
use Rattle.frame_merge.proofs.headings.heading_set.Goals as goal

pub loop-k-preserved : goal.loop-k-preserved
loop-k-preserved c =
    one_more_among c.args.on.now _ _ _ _ _ _ c.at.ensures c.heading.ensures.value c.in_ok-insert.ensures.keys c.loop-k.invariant
