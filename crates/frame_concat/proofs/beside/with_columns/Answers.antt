use Rattle.{
  frame_parts.proofs.Common.{arith, block_on, single_on},
  frame_concat.proofs.PlaceLaws.{more_on},
}
use Rattle.frame_concat.proofs.beside.with_columns.Goals as goal

pub loop-place-preserved : goal.loop-place-preserved
loop-place-preserved c =
    record {
      columns = more_on _ _ _ _ _ _ _ (omega arith) c.loop-place.invariant.columns c.in_ok-push.ensures.ok
          (grind (arith, block_on));
      single = grind (arith, single_on);
    }
