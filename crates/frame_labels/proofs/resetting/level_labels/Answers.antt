use Rattle.{
  frame_parts.proofs.Common.{map-append, arith, seen_later, longer_twice},
  frame_select.proofs.PickedLaws.{one_more_place},
  frame_labels.proofs.ResetLaws.{one_more_given},
}
use Rattle.frame_labels.proofs.resetting.level_labels.Goals as goal

pub loop-level-preserved : goal.loop-level-preserved
loop-level-preserved c =
    let old = c.loop-level.dict in
    let longer = c.in_ok-level_label.ensures.longer in
    record {
      longer = search longer_twice;
      given = grind (arith, one_more_given old);
      labels = grind (arith, map-append, seen_later, one_more_place);
    }
