use Rattle.{
  frame_parts.proofs.Common.{arith, map-range_with_len_more},
  frame_concat.specs.declared.parts.Sought.TheVariants.{At},
}
use Rattle.frame_concat.proofs.columns.columns_in_order.Goals as goal

pub loop-place-preserved : goal.loop-place-preserved
loop-place-preserved c =
    let place = c.loop-place.place in
    grind (arith, map-range_with_len_more At 0 place place)
